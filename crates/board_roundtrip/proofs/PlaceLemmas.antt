-- What an element at a place of a list shares with the list, and with those before it.
use Rattle.std.proofs.Common.{◌≡◌, ℕ, ◌+◌, ◌≤◌, Bool, true, false, cond, not, ◌&&◌, ◌||◌, List, [], ◌∷◌, ◌++◌, length, refl, sym, ap, subst, arith}
use Rattle.std.specs.Prelude.{count_by}
use Rattle.std.specs.List.{list_all, list_any, AllByRecursion}
use Rattle.std.proofs.lemmas.Bool.{and_parts, or_parts, or_from, not-true}
use Rattle.std.proofs.lemmas.List.{length-append}
use Rattle.std.proofs.lemmas.List.Sums.{sum_by-append, sum_by-cons}
use Rattle.list_facts.specs.Lists.{total}
use Rattle.list_facts.proofs.TotalLemmas.{total-append}
use Rattle.board_model.specs.declared.bridge.Bridge.{Bridge}
use Rattle.board_model.specs.declared.agents.Target.{Target}
use Rattle.board_model.specs.declared.agents.Master.{Master}
use Rattle.board_model.specs.WellFormed.{has_bus, are_numbered_apart, is_target_named, is_master_named, are_masters_named_apart, are_targets_named_apart}
use Rattle.board_parser.proofs.draft.PushLemmas.{bytes-swap, eq-swap}

each_at : {X : Type 0} (P : X → Type 0) (done : List X) (x : X) (rest : List X) → AllByRecursion P (done ++ x ∷ rest) → P x
each_at P [] x rest each = each.0
each_at P (y ∷ done) x rest each = each_at P done x rest each.1

pub each_of : {X : Type 0} (P : X → Type 0) (done : List X) (x : X) (rest all : List X) → done ++ x ∷ rest ≡ all → AllByRecursion P all → P x
each_of P done x rest all is each = each_at P done x rest (subst (AllByRecursion P) (sym is) each)

all_at : {X : Type 0} (test : X → Bool) (done : List X) (x : X) (rest : List X) → list_all test (done ++ x ∷ rest) ≡ true → test x ≡ true
all_at test [] x rest all = (and_parts (test x) (list_all test rest) all).0
all_at test (y ∷ done) x rest all = all_at test done x rest ((and_parts (test y) (list_all test (done ++ x ∷ rest)) all).1)

pub all_of : {X : Type 0} (test : X → Bool) (done : List X) (x : X) (rest all : List X) → done ++ x ∷ rest ≡ all → list_all test all ≡ true → test x ≡ true
all_of test done x rest all is pass = all_at test done x rest (subst (λ xs. list_all test xs ≡ true) (sym is) pass)

may_cases : {X : Type 0} (wide : Bool) (test : X → Bool) (done : List X) (x : X) (rest all : List X) → done ++ x ∷ rest ≡ all → (wide || list_all test all) ≡ true → (wide || test x) ≡ true
may_cases true test done x rest all is may = refl
may_cases false test done x rest all is may = all_of test done x rest all is may

pub may_of : {X : Type 0} (wide : Bool) (test : X → Bool) (done : List X) (x : X) (rest all : List X) → done ++ x ∷ rest ≡ all → (wide || list_all test all) ≡ true → (wide || test x) ≡ true
may_of = may_cases

pub length_of : {X : Type 0} (done : List X) (x : X) (rest all : List X) → done ++ x ∷ rest ≡ all → length done + 1 ≤ length all
length_of done x rest all is =
    let sum = length-append done (x ∷ rest) in
    let whole = ap length is in
    omega (arith, sum, whole)

abbrev one_if : Bool → ℕ
one_if b = cond b 1 0

pub count_of : {X : Type 0} (test : X → Bool) (done : List X) (x : X) (rest all : List X) → done ++ x ∷ rest ≡ all → test x ≡ true → count_by test done + 1 ≤ count_by test all
count_of {X} test done x rest all is pass =
    let sum : count_by test (done ++ x ∷ rest) ≡ count_by test done + count_by test (x ∷ rest) = sum_by-append (λ y. cond (test y) 1 0) done (x ∷ rest) in
    let whole : count_by test (done ++ x ∷ rest) ≡ count_by test all = ap (count_by test) is in
    let one : one_if (test x) ≡ one_if true = ap one_if pass in
    let more : count_by test (x ∷ rest) ≡ one_if (test x) + count_by test rest = sum_by-cons (λ y. cond (test y) 1 0) x rest in
    omega (arith, sum, whole, one, more)

pub total_of : {X : Type 0} (weight : X → ℕ) (done : List X) (x : X) (rest all : List X) → done ++ x ∷ rest ≡ all → total weight done + weight x ≤ total weight all
total_of weight done x rest all is =
    let sum = total-append weight done (x ∷ rest) in
    let whole = ap (total weight) is in
    omega (arith, sum, whole)

-- those before it have none of its numbers and names

any_at : {X : Type 0} (test : X → Bool) (done : List X) (x : X) (rest : List X) → list_any test (done ++ x ∷ rest) ≡ false → test x ≡ false
any_at test [] x rest none = (or_parts (test x) (list_any test rest) none).0
any_at test (y ∷ done) x rest none = any_at test done x rest ((or_parts (test y) (list_any test (done ++ x ∷ rest)) none).1)

pub any_of : {X : Type 0} (test : X → Bool) (done : List X) (x : X) (rest all : List X) → done ++ x ∷ rest ≡ all → list_any test all ≡ false → test x ≡ false
any_of test done x rest all is none = any_at test done x rest (subst (λ xs. list_any test xs ≡ false) (sym is) none)

numbered_at : (done : List Bridge) (bridge : Bridge) (rest : List Bridge) → are_numbered_apart (done ++ bridge ∷ rest) ≡ true → list_any (has_bus bridge.bus) done ≡ false
numbered_at [] bridge rest apart = refl
numbered_at (first ∷ done) bridge rest apart =
    let parts = and_parts (not (list_any (has_bus first.bus) (done ++ bridge ∷ rest))) (are_numbered_apart (done ++ bridge ∷ rest)) apart in
    let differ = any_at (has_bus first.bus) done bridge rest (not-true _ parts.0) in
    or_from (has_bus bridge.bus first) (list_any (has_bus bridge.bus) done) (eq-swap bridge.bus first.bus differ) (numbered_at done bridge rest parts.1)

pub numbered_of : (done : List Bridge) (bridge : Bridge) (rest all : List Bridge) → done ++ bridge ∷ rest ≡ all → are_numbered_apart all ≡ true → list_any (has_bus bridge.bus) done ≡ false
numbered_of done bridge rest all is apart = numbered_at done bridge rest (subst (λ bs. are_numbered_apart bs ≡ true) (sym is) apart)

masters_at : (done : List Master) (master : Master) (rest : List Master) → are_masters_named_apart (done ++ master ∷ rest) ≡ true → list_any (is_master_named master.name) done ≡ false
masters_at [] master rest apart = refl
masters_at (first ∷ done) master rest apart =
    let parts = and_parts (not (list_any (is_master_named first.name) (done ++ master ∷ rest))) (are_masters_named_apart (done ++ master ∷ rest)) apart in
    let differ = any_at (is_master_named first.name) done master rest (not-true _ parts.0) in
    or_from (is_master_named master.name first) (list_any (is_master_named master.name) done) (bytes-swap master.name first.name differ) (masters_at done master rest parts.1)

pub masters_of : (done : List Master) (master : Master) (rest all : List Master) → done ++ master ∷ rest ≡ all → are_masters_named_apart all ≡ true → list_any (is_master_named master.name) done ≡ false
masters_of done master rest all is apart = masters_at done master rest (subst (λ ms. are_masters_named_apart ms ≡ true) (sym is) apart)

targets_at : (masters : List Master) (done : List Target) (target : Target) (rest : List Target) → are_targets_named_apart masters (done ++ target ∷ rest) ≡ true → list_any (is_target_named target.name) done ≡ false
targets_at masters [] target rest apart = refl
targets_at masters (first ∷ done) target rest apart =
    let parts = and_parts (not (list_any (is_target_named first.name) (done ++ target ∷ rest)) && not (list_any (is_master_named first.name) masters)) (are_targets_named_apart masters (done ++ target ∷ rest)) apart in
    let named = and_parts (not (list_any (is_target_named first.name) (done ++ target ∷ rest))) (not (list_any (is_master_named first.name) masters)) parts.0 in
    let differ = any_at (is_target_named first.name) done target rest (not-true _ named.0) in
    or_from (is_target_named target.name first) (list_any (is_target_named target.name) done) (bytes-swap target.name first.name differ) (targets_at masters done target rest parts.1)

pub targets_of : (masters : List Master) (done : List Target) (target : Target) (rest all : List Target) → done ++ target ∷ rest ≡ all → are_targets_named_apart masters all ≡ true → list_any (is_target_named target.name) done ≡ false
targets_of masters done target rest all is apart = targets_at masters done target rest (subst (λ ts. are_targets_named_apart masters ts ≡ true) (sym is) apart)

-- no target has the name of a master
pub beside_of : (targets : List Target) (done : List Master) (master : Master) (rest all : List Master) → done ++ master ∷ rest ≡ all → are_targets_named_apart all targets ≡ true → list_any (is_target_named master.name) targets ≡ false
beside_of [] done master rest all is apart = refl
beside_of (first ∷ targets) done master rest all is apart =
    let parts = and_parts (not (list_any (is_target_named first.name) targets) && not (list_any (is_master_named first.name) all)) (are_targets_named_apart all targets) apart in
    let named = and_parts (not (list_any (is_target_named first.name) targets)) (not (list_any (is_master_named first.name) all)) parts.0 in
    let differ = any_of (is_master_named first.name) done master rest all is (not-true _ named.1) in
    or_from (is_target_named master.name first) (list_any (is_target_named master.name) targets) (bytes-swap master.name first.name differ) (beside_of targets done master rest all is parts.1)
