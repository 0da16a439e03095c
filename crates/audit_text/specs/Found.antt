-- The findings of a run, by what was noted down of it.
use Rattle.std.specs.Prelude.{ℕ, zero, suc, Bool, false, List, [], ◌∷◌, take, Option, Some, None, nat_lt, ◌&&◌, ◌||◌, if◌then◌else◌}
use Rattle.pci_command.specs.declared.op_id.OpId.{OpId}
use Rattle.pci_command.specs.Same.{same_op}
use Rattle.law_fresh.specs.Aware.{is_behind}
use Rattle.law_audit.specs.Chains.{joined, to_reader}
use Rattle.law_audit.specs.Audit.{Finding}
use Rattle.audit_clocks.specs.Tables.{value_of, writes_in}
use Rattle.audit_clocks.specs.Clocks.{since_at}
use Rattle.audit_text.specs.declared.readings.Reading.{Reading}
use Rattle.audit_text.specs.declared.ends.Ended.{Ended}
use Rattle.audit_text.specs.Notes.{Notes, flat, word_of}

-- one, or none
abbrev pub listed : {X : Type 0} → Option X → List X
listed None = []
listed (Some x) = x ∷ []

-- with which of its operations the master came to know of the write
abbrev pub since_of : Notes → OpId → ℕ → Option OpId
since_of notes w master = since_at notes.clocks.known master w

-- an operation stands behind one with which its master came to know of the write
abbrev pub knows_by : Notes → OpId → OpId → Bool
knows_by notes w o = is_behind (since_of notes w o.master) o

-- what a read got
abbrev pub got_in : Notes → OpId → Option Reading
got_in notes o = flat (value_of o notes.gots)

-- the writes of what landed in the dword before the reading
abbrev pub landed_before : Notes → Reading → List OpId
landed_before notes reading = take reading.landed (writes_in (word_of reading.target reading.space reading.address) notes.landings.landed)

-- before so many events
abbrev pub is_before : ℕ → Option ℕ → Bool
is_before events None = false
is_before events (Some place) = nat_lt place events

-- the write landed whole before the reading
abbrev pub landed_whole : Notes → Reading → OpId → Bool
landed_whole notes reading o = is_before reading.events (value_of o notes.landings.whole)

-- the last of these of which the operation knows
abbrev pub last_known : Notes → OpId → Option OpId → List OpId → Option OpId
last_known notes r found [] = found
last_known notes r found (w ∷ writes) = last_known notes r (if knows_by notes w r then Some w else found) writes

-- a write that landed whole before the reading, and is this one or knows of it
abbrev pub shows_it : Notes → Reading → OpId → OpId → Bool
shows_it notes reading w v = landed_whole notes reading v && (same_op v w || knows_by notes w v)

-- the first of these
abbrev pub first_shown : Notes → Reading → OpId → List OpId → Option OpId
first_shown notes reading w [] = None
first_shown notes reading w (v ∷ writes) = if shows_it notes reading w v then Some v else first_shown notes reading w writes

-- the first of those that landed before what the read got
abbrev pub shown_by : Notes → OpId → Option Reading → Option OpId
shown_by notes w None = None
shown_by notes w (Some reading) = first_shown notes reading w (landed_before notes reading)

-- the same by what the operation got
abbrev pub shown_to : Notes → OpId → OpId → Option OpId
shown_to notes w q = shown_by notes w (got_in notes q)

-- the chain from the write to an operation that knows of it, over at most so many masters
abbrev pub chain_to : ℕ → Notes → OpId → OpId → List OpId
chain_to zero notes w q = []
chain_to (suc n) notes w q =
    if same_op q w then w ∷ []
    else to_reader (λ p. chain_to n notes w p) (λ master. since_of notes w master) q (shown_to notes w q)

-- the chain to a read behind the operation with which its master came to know of the write
abbrev pub chain_from : ℕ → Notes → OpId → OpId → Option OpId → List OpId
chain_from n notes w r None = []
chain_from n notes w r (Some q) = joined (chain_to n notes w q) q r

-- the finding of a read that knows of a write which landed before; nothing where there is none
abbrev pub finding_of : ℕ → Notes → OpId → Reading → Option OpId → List Finding
finding_of n notes r reading None = []
finding_of n notes r reading (Some w) =
    record {
      read = r;
      word = record { target = reading.target; space = reading.space; address = reading.address };
      value = reading.value;
      write = w;
      chain = chain_from n notes w r (since_of notes w r.master);
    } ∷ []

-- the same by what the read got: of what landed before, the last that it knows of
abbrev pub findings_by : ℕ → Notes → OpId → Option Reading → List Finding
findings_by n notes r None = []
findings_by n notes r (Some reading) = finding_of n notes r reading (last_known notes r None (landed_before notes reading))

-- the same where the read ended with a value
abbrev pub findings_as : ℕ → Notes → OpId → Option ℕ → List Finding
findings_as n notes r None = []
findings_as n notes r (Some value) = findings_by n notes r (got_in notes r)

-- the findings of what an event ended
abbrev pub findings_in : ℕ → Notes → Option Ended → List Finding
findings_in n notes None = []
findings_in n notes (Some ended) = findings_as n notes ended.op ended.value
