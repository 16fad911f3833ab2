mod SecondLemmas
