mod FreshLemmas
mod WireLemmas
