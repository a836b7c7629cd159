mod FormLemmas
mod WordLemmas
