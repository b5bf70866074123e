mod FactLemmas
mod FlatLemmas
mod KindRows
mod Walking
