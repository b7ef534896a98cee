mod ArriveLemmas
mod DirectLemmas
mod SaidLemmas
mod RequestLemmas
mod ReceiveLemmas
