-- Equal requests, and equal initiators.
use Rattle.std.proofs.Common.{◌≡◌, ℕ, true, Option, Some, None, refl, sym, ap, subst, ◌∙◌}
use Rattle.std.specs.Cmp.{IsEquivalence}
use Rattle.std.proofs.lemmas.Cmp.{nat_eq_equiv, on_equiv, and_equiv, lists_equiv}
use Rattle.pci_command.specs.declared.phases.Phase.{Phase}
use Rattle.pci_command.specs.declared.request.Request.{Request}
use Rattle.pci_command.specs.declared.op_id.OpId.{OpId}
use Rattle.pci_command.specs.Command.{code_of}
use Rattle.pci_command.specs.Same.{same_phase, same_request}
use Rattle.board_model.specs.declared.board.Board.{Board}
use Rattle.board_model.specs.Requests.{request_of, both_same, same_requests}
use Rattle.history_model.specs.declared.event.By.{By}
use Rattle.history_model.specs.declared.event.By.TheVariants.{Master, Lane as ByLane}
use Rattle.history_model.specs.declared.item.Slot.{Slot}
use Rattle.history_model.specs.World.{same_lane, same_initiator, is_own}
use Rattle.history_model.proofs.facts.BridgeLemmas.{same_lane_true, same_lane_self, same_lane_symm}
use Rattle.std.proofs.lemmas.Bool.{and_parts}

same_phase-equiv : IsEquivalence same_phase
same_phase-equiv = and_equiv (on_equiv (λ (p : Phase). p.value) nat_eq_equiv) (on_equiv (λ (p : Phase). p.enables) nat_eq_equiv)

same_request-equiv : IsEquivalence same_request
same_request-equiv =
    and_equiv (and_equiv (on_equiv (λ (r : Request). code_of r.command) nat_eq_equiv) (on_equiv (λ (r : Request). r.address) nat_eq_equiv))
    (on_equiv (λ (r : Request). r.phases) (lists_equiv same_phase-equiv))

both_same-symm : (a b : Option Request) → both_same a b ≡ both_same b a
both_same-symm None None = refl
both_same-symm None (Some r) = refl
both_same-symm (Some r) None = refl
both_same-symm (Some r) (Some s) = same_request-equiv.symm r s

both_same-congr : (a b c : Option Request) → both_same a b ≡ true → both_same a c ≡ both_same b c
both_same-congr None b c same = cc
both_same-congr (Some r) None c same = cc
both_same-congr (Some r) (Some s) None same = refl
both_same-congr (Some r) (Some s) (Some t) same = same_request-equiv.congr r s t same

pub same_requests-symm : (board : Board) (on : ℕ) (o p : OpId) → same_requests board on o p ≡ same_requests board on p o
same_requests-symm board on o p = both_same-symm (request_of board o on) (request_of board p on)

pub same_requests-congr : (board : Board) (on : ℕ) (o p q : OpId) → same_requests board on o p ≡ true → same_requests board on o q ≡ same_requests board on p q
same_requests-congr board on o p q same = both_same-congr (request_of board o on) (request_of board p on) (request_of board q on) same

pub same_requests-self : (board : Board) (on : ℕ) (o : OpId) (request : Request) → request_of board o on ≡ Some request → same_requests board on o o ≡ true
same_requests-self board on o request is =
    let P : Option Request → Type 0 = λ r. both_same r r ≡ true in
    subst P (sym is) (same_request-equiv.refl request)

pub same_initiator-symm : (a : By) (p : OpId) (b : By) (q : OpId) → same_initiator a p b q ≡ same_initiator b q a p
same_initiator-symm Master p Master q = nat_eq_equiv.symm p.master q.master
same_initiator-symm Master p (ByLane l) q = refl
same_initiator-symm (ByLane k) p Master q = refl
same_initiator-symm (ByLane k) p (ByLane l) q = same_lane_symm k l

pub same_initiator-congr : (a : By) (p : OpId) (b : By) (q : OpId) (c : By) (r : OpId) → same_initiator a p b q ≡ true → same_initiator a p c r ≡ same_initiator b q c r
same_initiator-congr Master p Master q Master r same = nat_eq_equiv.congr p.master q.master r.master same
same_initiator-congr Master p Master q (ByLane m) r same = refl
same_initiator-congr Master p (ByLane l) q c r same = cc
same_initiator-congr (ByLane k) p Master q c r same = cc
same_initiator-congr (ByLane k) p (ByLane l) q Master r same = refl
same_initiator-congr (ByLane k) p (ByLane l) q (ByLane m) r same = ap (λ n. same_lane n m) (same_lane_true k l same)

pub same_initiator-self : (a : By) (p : OpId) → same_initiator a p a p ≡ true
same_initiator-self Master p = nat_eq_equiv.refl p.master
same_initiator-self (ByLane k) p = same_lane_self k

-- an own slot has the same initiator and the same request
pub is_own-parts : (board : Board) (on : ℕ) (by : By) (o : OpId) (slot : Slot) → is_own board on by o slot ≡ true → (same_initiator slot.by slot.op by o ≡ true) × (same_requests board on slot.op o ≡ true)
is_own-parts board on by o slot own = and_parts (same_initiator slot.by slot.op by o) (same_requests board on slot.op o) own

-- where a slot is the own one of two, what is the own slot of one is that of the other
pub is_own-alike : (board : Board) (on : ℕ) (a : By) (p : OpId) (b : By) (q : OpId) → same_initiator a p b q ≡ true → same_requests board on p q ≡ true → (slot : Slot) → is_own board on a p slot ≡ is_own board on b q slot
is_own-alike board on a p b q initiators requests slot =
    let first : same_initiator slot.by slot.op a p ≡ same_initiator slot.by slot.op b q =
    same_initiator-symm slot.by slot.op a p ∙ same_initiator-congr a p b q slot.by slot.op initiators ∙ same_initiator-symm b q slot.by slot.op in
    let second : same_requests board on slot.op p ≡ same_requests board on slot.op q =
    same_requests-symm board on slot.op p ∙ same_requests-congr board on p q slot.op requests ∙ same_requests-symm board on q slot.op in
    cc
