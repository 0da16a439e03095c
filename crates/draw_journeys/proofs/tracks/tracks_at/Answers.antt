use Rattle.std.proofs.Common.{◌≡◌, ℕ, ◌+◌, ◌<◌, ◌≤◌, suc, List, ◌++◌, append_assoc, append-nil, flat_map, length, drop, get_or, slice_get, sym, ap, ◌∙◌, arith}
use Rattle.std.proofs.lemmas.List.{drop_all}
use Rattle.std.proofs.Math.Seq.{drop-cons}
use Rattle.draw_journeys.specs.Kept.{track_on}
use Rattle.draw_journeys.proofs.tracks.tracks_at.Goals as goal

-- one more number
more : (f : ℕ → List ℕ) (numbers : List ℕ) (i d : ℕ) (old new whole : List ℕ) → i < length numbers → old ++ flat_map f (drop i numbers) ≡ whole → new ≡ old ++ f (get_or numbers i d) → new ++ flat_map f (drop (i + 1) numbers) ≡ whole
more f numbers i d old new whole within so is =
    let e : i + 1 ≡ suc i = omega arith in
    ap (λ xs. xs ++ flat_map f (drop (i + 1) numbers)) is
    ∙ append_assoc old _ _
    ∙ ap (λ k. old ++ (f (get_or numbers i d) ++ flat_map f (drop k numbers))) e
    ∙ ap (λ xs. old ++ flat_map f xs) (sym (drop-cons numbers i d within))
    ∙ so

-- all numbers
all : (f : ℕ → List ℕ) (numbers : List ℕ) (i : ℕ) (old whole : List ℕ) → length numbers ≤ i → old ++ flat_map f (drop i numbers) ≡ whole → old ≡ whole
all f numbers i old whole past so = sym (append-nil old) ∙ ap (λ xs. old ++ flat_map f xs) (sym (drop_all i numbers past)) ∙ so

pub loop-place-preserved : goal.loop-place-preserved
loop-place-preserved c =
    let on = λ (place : ℕ). track_on c.args.lane (slice_get c.args.journeys.now place) in
    more on c.args.places.now c.loop-place.place-index 0 c.loop-place.tracks.items c.add_track.new.tracks.items _ (omega (arith, c.loop-place-test.true)) c.loop-place.invariant c.in_ok-add_track.ensures

pub returns : goal.returns
returns c =
    let on = λ (place : ℕ). track_on c.args.lane (slice_get c.args.journeys.now place) in
    all on c.args.places.now c.loop-place.place-index c.loop-place.tracks.items _ c.loop-place-test.false c.loop-place.invariant
