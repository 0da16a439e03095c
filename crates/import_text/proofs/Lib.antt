mod CutLemmas
mod DigitLemmas
mod ListLemmas
mod SlotLemmas
