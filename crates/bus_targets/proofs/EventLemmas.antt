-- A target stands for the event that its answer is, and for what happens elsewhere.
use Rattle.std.proofs.Common.{◌≡◌, ◌≢◌, ℕ, Bool, true, false, ◌+◌, ◌-◌, ◌<◌, ◌==◌, List, [], ◌∷◌, Some, refl, sym, ap, subst, ◌∙◌, arith, if◌then◌else◌}
use Rattle.std.specs.Prelude.{slice_get, is_some, nat_lt}
use Rattle.std.proofs.lemmas.Bool.Decides.{nat_tests}
use Rattle.pci_command.specs.declared.command.Space.{Space}
use Rattle.pci_command.specs.declared.command.Space.TheVariants.{Mem, Io, Cfg}
use Rattle.pci_command.specs.declared.phases.Phase.{Phase}
use Rattle.pci_command.specs.declared.request.Request.{Request}
use Rattle.pci_command.specs.declared.op_id.OpId.{OpId}
use Rattle.pci_command.specs.Command.{space_of}
use Rattle.pci_command.specs.Same.{same_space}
use Rattle.board_model.specs.declared.agents.Target.{Target as TargetAgent}
use Rattle.board_model.specs.declared.bridge.Place.{Place}
use Rattle.board_model.specs.declared.bridge.Place.TheVariants.{Target, Header, Lane, Nobody}
use Rattle.board_model.specs.declared.board.Board.{Board}
use Rattle.board_model.specs.Requests.{request_of}
use Rattle.board_model.specs.Ways.{Dword, address_in}
use Rattle.history_model.specs.declared.event.By.{By}
use Rattle.history_model.specs.declared.event.Step.{Step}
use Rattle.history_model.specs.declared.event.Step.TheVariants.{Land, Part as PartStep, Read, Accept, Latch, Take, Stall as StallStep, MasterAbort, TargetAbort}
use Rattle.history_model.specs.declared.event.Event.{Event}
use Rattle.history_model.specs.declared.event.Event.TheVariants.{Act, Arrive}
use Rattle.history_model.specs.Words.{Landing, through, without, brings, landings_at, landings_in, landings_of, brought, merged, value_of}
use Rattle.history_model.specs.Answers.{stalls_used, stalls_by, stalls_in}
use Rattle.machine_steps.specs.Values.{value_merged}
use Rattle.machine_steps.proofs.ValueLemmas.{merged_landings, nothing_brought, value_after_event}
use Rattle.bus_targets.specs.declared.access.Access.{Access}
use Rattle.bus_targets.specs.declared.access.Access.TheVariants.{Stall, Abort, Value, Part, Landed}
use Rattle.bus_targets.specs.Words.{WordsOfSpace, place_in}
use Rattle.bus_targets.specs.State.{TargetView, words_in, accessed_in, access_by, step_of, with_landed, landed_in, after_access, IsElsewhere, HappensElsewhere}
use Rattle.bus_targets.specs.Stands.{TableStands, TargetStands, IsAccess}
use Rattle.bus_targets.proofs.WordLemmas.{landed_there}

-- A word after an act at its target.
value_here : (board : Board) (p : List Event) (on : ℕ) (by : By) (o : OpId) (step : Step) (target : ℕ) (whole request : Request) → request_of board o on ≡ Some whole → request ≡ without (through p o) whole
    → (space : Space) (address : ℕ) → (let word : Dword = record { target = target; space = space; address = address } in
    value_of board (Act on by o step (Target target) ∷ p) word
    ≡ (if same_space (space_of request.command) space
    then value_merged space address (address_in (space_of request.command) request.address) (value_of board p word) (brings step request.phases) else value_of board p word))
value_here board p on by o step target whole request named rest space address =
    let word : Dword = record { target = target; space = space; address = address } in
    let was : ℕ = value_of board p word in
    let of_target : Bool → List Landing = λ b. if b then landings_of o step (through p o) word (request_of board o on) else [] in
    let same : (target == target) ≡ true = grind (arith, nat_tests) in
    let of_request : Request → List Landing = λ r. landings_in o word (space_of r.command) r.address (brings step r.phases) in
    let here : brought board p word (Act on by o step (Target target)) ≡ of_request request =
    ap of_target same ∙ ap (landings_of o step (through p o) word) named ∙ ap of_request (sym rest) in
    let at : ℕ = address_in (space_of request.command) request.address in
    let P : Bool → Type 0 = λ b. merged word was (if b then landings_at o address at (brings step request.phases) else []) ≡ (if b then value_merged space address at was (brings step request.phases) else was) in
    value_after_event board p (Act on by o step (Target target)) word ∙ ap (merged word was) here
    ∙ elim (same_space (space_of request.command) space) as P [ true ↦ merged_landings target o space address at was (brings step request.phases) | false ↦ refl ]

space_self : (space : Space) → same_space space space ≡ true
space_self Mem = refl
space_self Io = refl
space_self Cfg = refl

-- the words of the space of the request
landed_table : (board : Board) (p : List Event) (on : ℕ) (by : By) (o : OpId) (step : Step) (target : ℕ) (whole request : Request) → request_of board o on ≡ Some whole → request ≡ without (through p o) whole
    → (space : Space) (words : WordsOfSpace) → space_of request.command ≡ space → TableStands board p target space words → TableStands board (Act on by o step (Target target) ∷ p) target space (with_landed space request step words)
landed_table board p on by o step target whole request named rest space words is table = record { rises = table.rises; values = each } where
  each : (place address : ℕ) → slice_get words.addresses place ≡ Some address
      → slice_get (with_landed space request step words).values place ≡ Some (value_of board (Act on by o step (Target target) ∷ p) (record { target = target; space = space; address = address }))
  each place address here =
      let word : Dword = record { target = target; space = space; address = address } in
      let was : ℕ = value_of board p word in
      let bs : List Phase = brings step request.phases in
      let same : same_space (space_of request.command) space ≡ true = subst (λ (s : Space). same_space s space ≡ true) (sym is) (space_self space) in
      let value = value_here board p on by o step target whole request named rest space address in
      let by_space = ap (λ (b : Bool). if b then value_merged space address (address_in (space_of request.command) request.address) was bs else was) same in
      let at = ap (λ (s : Space). value_merged space address (address_in s request.address) was bs) is in
      landed_there space words.addresses place address (address_in space request.address) bs words.values was table.rises here (table.values place address here)
      ∙ ap (λ (n : ℕ). Some n) (sym (value ∙ by_space ∙ at))

-- and those of another
other_table : (board : Board) (p : List Event) (on : ℕ) (by : By) (o : OpId) (step : Step) (target : ℕ) (whole request : Request) → request_of board o on ≡ Some whole → request ≡ without (through p o) whole
    → (space c : Space) (words : WordsOfSpace) → space_of request.command ≡ c → same_space c space ≡ false → TableStands board p target space words → TableStands board (Act on by o step (Target target) ∷ p) target space words
other_table board p on by o step target whole request named rest space c words is other table = record { rises = table.rises; values = each } where
  each : (place address : ℕ) → slice_get words.addresses place ≡ Some address
      → slice_get words.values place ≡ Some (value_of board (Act on by o step (Target target) ∷ p) (record { target = target; space = space; address = address }))
  each place address here =
      let word : Dword = record { target = target; space = space; address = address } in
      let was : ℕ = value_of board p word in
      let bs : List Phase = brings step request.phases in
      let differs : same_space (space_of request.command) space ≡ false = subst (λ (s : Space). same_space s space ≡ false) (sym is) other in
      let value = value_here board p on by o step target whole request named rest space address in
      let by_space = ap (λ (b : Bool). if b then value_merged space address (address_in (space_of request.command) request.address) was bs else was) differs in
      table.values place address here ∙ ap (λ (n : ℕ). Some n) (sym (value ∙ by_space))

-- all words after data phases landed, by the space of the request
all_tables : (board : Board) (p : List Event) (on : ℕ) (by : By) (o : OpId) (step : Step) (t : TargetView) (whole request : Request) → request_of board o on ≡ Some whole → request ≡ without (through p o) whole
    → ((space : Space) → TableStands board p t.target space (words_in space t)) → (c : Space) → space_of request.command ≡ c
    → (space : Space) → TableStands board (Act on by o step (Target t.target) ∷ p) t.target space (words_in space (landed_in t request step c))
all_tables board p on by o step t whole request named rest tables Mem is Mem = landed_table board p on by o step t.target whole request named rest Mem t.memory is (tables Mem)
all_tables board p on by o step t whole request named rest tables Mem is Io = other_table board p on by o step t.target whole request named rest Io Mem t.ports is refl (tables Io)
all_tables board p on by o step t whole request named rest tables Mem is Cfg = other_table board p on by o step t.target whole request named rest Cfg Mem t.registers is refl (tables Cfg)
all_tables board p on by o step t whole request named rest tables Io is Mem = other_table board p on by o step t.target whole request named rest Mem Io t.memory is refl (tables Mem)
all_tables board p on by o step t whole request named rest tables Io is Io = landed_table board p on by o step t.target whole request named rest Io t.ports is (tables Io)
all_tables board p on by o step t whole request named rest tables Io is Cfg = other_table board p on by o step t.target whole request named rest Cfg Io t.registers is refl (tables Cfg)
all_tables board p on by o step t whole request named rest tables Cfg is Mem = other_table board p on by o step t.target whole request named rest Mem Cfg t.memory is refl (tables Mem)
all_tables board p on by o step t whole request named rest tables Cfg is Io = other_table board p on by o step t.target whole request named rest Io Cfg t.ports is refl (tables Io)
all_tables board p on by o step t whole request named rest tables Cfg is Cfg = landed_table board p on by o step t.target whole request named rest Cfg t.registers is (tables Cfg)

-- no address comes or goes
abbrev SameAddresses : TargetView → TargetView → Type 0
SameAddresses t after = (space : Space) → (words_in space after).addresses ≡ (words_in space t).addresses

landed_addresses : (t : TargetView) (request : Request) (step : Step) (c : Space) → SameAddresses t (landed_in t request step c)
landed_addresses t request step Mem Mem = refl
landed_addresses t request step Mem Io = refl
landed_addresses t request step Mem Cfg = refl
landed_addresses t request step Io Mem = refl
landed_addresses t request step Io Io = refl
landed_addresses t request step Io Cfg = refl
landed_addresses t request step Cfg Mem = refl
landed_addresses t request step Cfg Io = refl
landed_addresses t request step Cfg Cfg = refl

-- the parts together
together : (board : Board) (p : List Event) (e : Event) (t after : TargetView) → after.target ≡ t.target → after.stalls + stalls_by t.target e ≡ t.stalls → SameAddresses t after
    → ((space : Space) → TableStands board (e ∷ p) t.target space (words_in space after)) → TargetStands board p t → TargetStands board (e ∷ p) after
together board p e t after is tokens same tables stands =
    record {
      agent = stands.agent;
      there = subst (λ (n : ℕ). slice_get board.targets n ≡ Some stands.agent) (sym is) stands.there;
      stalls = subst (λ (n : ℕ). after.stalls + (stalls_by n e + stalls_used p n) ≡ stands.agent.stalls) (sym is) counted;
      words = λ space. subst (λ (n : ℕ). TableStands board (e ∷ p) n space (words_in space after)) (sym is) (tables space);
      reads = λ on o request named claimed read.
          subst (λ (addresses : List ℕ). is_some (place_in addresses (address_in (space_of request.command) request.address)) ≡ true) (sym (same (space_of request.command)))
          (stands.reads on o request named (claimed ∙ ap (λ (n : ℕ). Target n) is) read);
    } where
      counted : after.stalls + (stalls_by t.target e + stalls_used p t.target) ≡ stands.agent.stalls
      counted = let sum = stands.stalls in omega (arith, tokens, sum)

-- a step that brings nothing leaves all words
stays_at : (board : Board) (p : List Event) (on : ℕ) (by : By) (o : OpId) (step : Step) (target : ℕ) (word : Dword) → ((phases : List Phase) → brings step phases ≡ [])
    → value_of board (Act on by o step (Target target) ∷ p) word ≡ value_of board p word
stays_at board p on by o step target word none =
    let was : ℕ = value_of board p word in
    let P : Bool → Type 0 = λ b. merged word was (if b then landings_of o step (through p o) word (request_of board o on) else []) ≡ was in
    value_after_event board p (Act on by o step (Target target)) word
    ∙ elim (target == word.target) as P [ true ↦ nothing_brought o step (through p o) word was (request_of board o on) none | false ↦ refl ]

same_table : (board : Board) (p : List Event) (e : Event) (target : ℕ) (space : Space) (words : WordsOfSpace) → ((word : Dword) → word.target ≡ target → value_of board (e ∷ p) word ≡ value_of board p word)
    → TableStands board p target space words → TableStands board (e ∷ p) target space words
same_table board p e target space words same table =
    record {
      rises = table.rises;
      values = λ place address here.
          table.values place address here ∙ ap (λ (n : ℕ). Some n) (sym (same (record { target = target; space = space; address = address }) refl));
    }

-- a stall is answered only while tokens are left
no_stall : (b2 b3 b4 : Bool) (w n : ℕ) → (if b2 then Abort else if b3 then Value w else if b4 then Part n else Landed) ≡ Stall → ⊥
no_stall true b3 b4 w n e = cc
no_stall false true b4 w n e = cc
no_stall false false true w n e = cc
no_stall false false false w n e = cc

some_left : (left : ℕ) (b2 b3 b4 : Bool) (w n : ℕ) → Stall ≡ (if nat_lt 0 left then Stall else if b2 then Abort else if b3 then Value w else if b4 then Part n else Landed) → 0 < left
some_left left b2 b3 b4 w n e =
    let P : Bool → Type 0 = λ b. nat_lt 0 left ≡ b → Stall ≡ (if b then Stall else if b2 then Abort else if b3 then Value w else if b4 then Part n else Landed) → 0 < left in
    (elim (nat_lt 0 left) as P [ true ↦ λ some _. grind (arith, nat_tests, some) | false ↦ λ _ f. absurd (no_stall b2 b3 b4 w n (sym f)) ]) refl e

-- the event that the answer is
abbrev act : ℕ → By → OpId → TargetView → Access → Event
act on by o t answer = Act on by o (step_of answer) (Target t.target)

after_landing : (board : Board) (p : List Event) (on : ℕ) (by : By) (o : OpId) (step : Step) (t : TargetView) (request : Request) → stalls_in t.target (Target t.target) step ≡ 0
    → TargetStands board p t → IsAccess board p t.target on o request → (c : Space) → space_of request.command ≡ c → TargetStands board (Act on by o step (Target t.target) ∷ p) (landed_in t request step c)
after_landing board p on by o step t request none stands access Mem is =
    together board p (Act on by o step (Target t.target)) t (landed_in t request step Mem) refl (omega (arith, none)) (landed_addresses t request step Mem)
    (all_tables board p on by o step t access.whole request access.named access.rest stands.words Mem is) stands
after_landing board p on by o step t request none stands access Io is =
    together board p (Act on by o step (Target t.target)) t (landed_in t request step Io) refl (omega (arith, none)) (landed_addresses t request step Io)
    (all_tables board p on by o step t access.whole request access.named access.rest stands.words Io is) stands
after_landing board p on by o step t request none stands access Cfg is =
    together board p (Act on by o step (Target t.target)) t (landed_in t request step Cfg) refl (omega (arith, none)) (landed_addresses t request step Cfg)
    (all_tables board p on by o step t access.whole request access.named access.rest stands.words Cfg is) stands

pub stands_after : (board : Board) (p : List Event) (on : ℕ) (by : By) (o : OpId) (t : TargetView) (request : Request) (answer : Access) → answer ≡ access_by t request (slice_get board.targets t.target)
    → TargetStands board p t → IsAccess board p t.target on o request → TargetStands board (act on by o t answer ∷ p) (after_access t request answer)
stands_after board p on by o t request Stall is stands access =
    let agent : TargetAgent = stands.agent in
    let given : Stall ≡ accessed_in t request agent = is ∙ ap (access_by t request) stands.there in
    let left : 0 < t.stalls = some_left t.stalls _ _ _ _ _ given in
    let same : (t.target == t.target) ≡ true = grind (arith, nat_tests) in
    let tokens : (t.stalls - 1) + (if t.target == t.target then 1 else 0) ≡ t.stalls = rw same (omega (arith, left)) in
    together board p (act on by o t Stall) t (record t { stalls = t.stalls - 1 }) refl tokens (λ space. three t (t.stalls - 1) space)
    (λ space. tables space) stands where
      three : (view : TargetView) (n : ℕ) (space : Space) → (words_in space (record view { stalls = n })).addresses ≡ (words_in space view).addresses
      three view n Mem = refl
      three view n Io = refl
      three view n Cfg = refl

      tables : (space : Space) → TableStands board (act on by o t Stall ∷ p) t.target space (words_in space (record t { stalls = t.stalls - 1 }))
      tables Mem = same_table board p (act on by o t Stall) t.target Mem t.memory (λ word _. stays_at board p on by o StallStep t.target word (λ _. refl)) (stands.words Mem)
      tables Io = same_table board p (act on by o t Stall) t.target Io t.ports (λ word _. stays_at board p on by o StallStep t.target word (λ _. refl)) (stands.words Io)
      tables Cfg = same_table board p (act on by o t Stall) t.target Cfg t.registers (λ word _. stays_at board p on by o StallStep t.target word (λ _. refl)) (stands.words Cfg)
stands_after board p on by o t request Abort is stands access =
    together board p (act on by o t Abort) t t refl (omega arith) (λ space. refl)
    (λ space. same_table board p (act on by o t Abort) t.target space (words_in space t) (λ word _. stays_at board p on by o TargetAbort t.target word (λ _. refl)) (stands.words space)) stands
stands_after board p on by o t request (Value value) is stands access =
    together board p (act on by o t (Value value)) t t refl (omega arith) (λ space. refl)
    (λ space. same_table board p (act on by o t (Value value)) t.target space (words_in space t) (λ word _. stays_at board p on by o (Read value) t.target word (λ _. refl)) (stands.words space)) stands
stands_after board p on by o t request (Part phases) is stands access = after_landing board p on by o (PartStep phases) t request refl stands access (space_of request.command) refl
stands_after board p on by o t request Landed is stands access = after_landing board p on by o Land t request refl stands access (space_of request.command) refl

-- What happens elsewhere.
not_here : (place target : ℕ) → place ≢ target → (place == target) ≡ false
not_here place target apart = grind (arith, nat_tests, apart)

no_token : (target : ℕ) (place : Place) (step : Step) → IsElsewhere target place → stalls_in target place step ≡ 0
no_token target place Land apart = refl
no_token target place (PartStep phases) apart = refl
no_token target place (Read value) apart = refl
no_token target place Accept apart = refl
no_token target place Latch apart = refl
no_token target place (Take outcome) apart = refl
no_token target (Target place) StallStep apart = rw (not_here place target apart) refl
no_token target (Header bus) StallStep apart = refl
no_token target (Lane lane) StallStep apart = refl
no_token target Nobody StallStep apart = refl
no_token target place MasterAbort apart = refl
no_token target place TargetAbort apart = refl

none_used : (target : ℕ) (e : Event) → HappensElsewhere target e → stalls_by target e ≡ 0
none_used target (Act on by o step place) apart = no_token target place step apart
none_used target (Arrive lane mark) apart = refl

none_brought : (board : Board) (p : List Event) (target : ℕ) (word : Dword) (e : Event) → word.target ≡ target → HappensElsewhere target e → brought board p word e ≡ []
none_brought board p target word (Arrive lane mark) is apart = refl
none_brought board p target word (Act on by o step (Header bus)) is apart = refl
none_brought board p target word (Act on by o step (Lane lane)) is apart = refl
none_brought board p target word (Act on by o step Nobody) is apart = refl
none_brought board p target word (Act on by o step (Target place)) is apart =
    let differs : (place == word.target) ≡ false = subst (λ (n : ℕ). (place == n) ≡ false) (sym is) (not_here place target apart) in
    ap (λ (b : Bool). if b then landings_of o step (through p o) word (request_of board o on) else []) differs

pub stands_elsewhere : (board : Board) (p : List Event) (t : TargetView) (e : Event) → HappensElsewhere t.target e → TargetStands board p t → TargetStands board (e ∷ p) t
stands_elsewhere board p t e apart stands =
    let none = none_used t.target e apart in
    together board p e t t refl (omega (arith, none)) (λ space. refl)
    (λ space. same_table board p e t.target space (words_in space t)
    (λ word is. value_after_event board p e word ∙ ap (merged word (value_of board p word)) (none_brought board p t.target word e is apart)) (stands.words space)) stands
