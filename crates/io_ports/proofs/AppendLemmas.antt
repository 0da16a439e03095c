-- Bytes appended in two steps.
use Rattle.std.proofs.Common.{ℕ, ◌+◌, List, ◌++◌, take, drop, Option, None, Some, append_assoc}
use Rattle.std.specs.Io.KnownBytes.{Appends}
use Rattle.std.proofs.Math.Seq.{take-add}

pub Appends-append : (a b c : Option (List ℕ)) (xs ys : List ℕ) → Appends a b xs → Appends b c ys → Appends a c (xs ++ ys)
Appends-append None b c xs ys first second = tt
Appends-append (Some a) None c xs ys first second = absurd first
Appends-append (Some a) (Some b) None xs ys first second = absurd second
Appends-append (Some a) (Some b) (Some c) xs ys first second = rw (second, first, append_assoc)

-- a front of the text, and then the next bytes of it
pub Appends-take : (a b c : Option (List ℕ)) (text : List ℕ) (at count : ℕ) → Appends a b (take at text) → Appends b c (take count (drop at text)) → Appends a c (take (at + count) text)
Appends-take a b c text at count first second = rw (take-add at count text) (Appends-append a b c (take at text) (take count (drop at text)) first second)
