mod JoinedLemmas
mod ToldLemmas
