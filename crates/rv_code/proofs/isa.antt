pub mod EvenOffsets
