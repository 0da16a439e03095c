mod FaceLemmas
mod IdleLemmas
mod ProgramLemmas
