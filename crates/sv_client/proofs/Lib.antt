mod SessionLemmas
