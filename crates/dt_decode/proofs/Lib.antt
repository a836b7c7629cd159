mod DecodedLemmas
mod MaskLemmas
mod RowLemmas
