mod LineLemmas
mod WrittenLemmas
mod SessionLemmas
mod AnswerLemmas
mod PieceLemmas
mod EndLemmas
mod ReadLemmas
