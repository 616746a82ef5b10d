mod Collected
mod PairOrder
