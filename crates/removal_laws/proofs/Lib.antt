mod PairLemmas
mod HeldLemmas
mod GoneLemmas
mod RowLemmas
