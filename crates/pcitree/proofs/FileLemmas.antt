-- The place of the word that names the file.
use Rattle.std.proofs.Common.{◌≡◌, ◌+◌, not, cond, List, [], ◌∷◌, map, refl, ap}
use Rattle.std.specs.List.{position, position_or_len}
use Rattle.std.proofs.lemmas.List.{length-map}
use Rattle.program_words.specs.declared.Part.{Part}
use Rattle.pcitree.specs.Words.{is_file}
use Rattle.program_words.specs.Shapes.{shape_of}

place_of_file : (parts : List Part) → position_or_len (λ part. is_file (shape_of part)) parts ≡ position_or_len is_file (map shape_of parts)
place_of_file [] = refl
place_of_file (part ∷ parts) = ap (λ n. cond (not (is_file (shape_of part))) (1 + n) 0) (place_of_file parts)

pub position_of_file : (parts : List Part) → position (λ part. is_file (shape_of part)) parts ≡ position is_file (map shape_of parts)
position_of_file parts = let place = place_of_file parts in let long = length-map parts shape_of in rw (place, long) refl
