-- The writes that name one dword, by author, and the search among them.
use Rattle.std.specs.Prelude.{ℕ, ◌-◌, ◌<◌, ◌≤◌, max, Bool, List, [], ◌∷◌, ◌++◌, length, Option, Some, None, not, ◌==◌, nat_lt, slice_get, slice_set, slice_index_or, if◌then◌else◌}
use Rattle.std.specs.List.{find}
use Rattle.std.specs.Option.{option_or}
use Rattle.pci_command.specs.declared.op_id.OpId.{OpId}
use Rattle.audit_clocks.specs.Rows.{number}
use Rattle.untagged_check.specs.declared.index.entry.Entry.{Entry}
use Rattle.untagged_check.specs.declared.index.entry.Write.{Write}

-- the writes of one master, in the order of its program
pub record Listing : Type 0 where
  pub master : ℕ
  pub entries : List Entry

-- the numbers of events rise along the entries, or stay
pub record Rises (entries : List Entry) : Type 0 where
  pub along : (a b : ℕ) (d : Entry) → a ≤ b → b < length entries → (slice_index_or entries a d).landed ≤ (slice_index_or entries b d).landed

-- Search.

-- the write or an earlier one had not landed before so many events
abbrev pub is_late : ℕ → Entry → Bool
is_late events entry = not (nat_lt entry.landed events)

-- the write of an entry, where so many of its master's operations reach it
abbrev pub reached : ℕ → ℕ → Option Entry → Option OpId
reached master count None = None
reached master count (Some entry) =
    if nat_lt entry.index count then Some (record { master = master; index = entry.index; attempt = 0 }) else None

-- the first of a master, if so many of its operations reach it
abbrev pub first_of : ℕ → ℕ → Listing → Option OpId
first_of events count listing = reached listing.master count (find (is_late events) listing.entries)

-- the first of all masters, as these numbers reach them
abbrev pub first_in : ℕ → List ℕ → List Listing → Option OpId
first_in events numbers [] = None
first_in events numbers (listing ∷ listings) =
    option_or (first_of events (number numbers listing.master) listing) (first_in events numbers listings)

-- One write more.

-- how many events an entry says; 0 where there is none
abbrev pub landed_in : Option Entry → ℕ
landed_in None = 0
landed_in (Some entry) = entry.landed

-- the last of a list
abbrev pub last_of : {X : Type 0} → List X → Option X
last_of xs = slice_get xs (length xs - 1)

-- its entry behind these
abbrev pub longer : Write → Listing → Listing
longer write listing =
    record {
      master = listing.master;
      entries = listing.entries ++ record { index = write.op.index; landed = max write.landed (landed_in (last_of listing.entries)) } ∷ [];
    }

-- the first of its master
abbrev pub alone : Write → Listing
alone write = record { master = write.op.master; entries = record { index = write.op.index; landed = write.landed } ∷ [] }

-- behind those of the last master, or the first of the next
abbrev pub pushed_at : Write → List Listing → Option Listing → List Listing
pushed_at write listings None = listings ++ alone write ∷ []
pushed_at write listings (Some last) =
    if last.master == write.op.master then slice_set listings (length listings - 1) (longer write last) else listings ++ alone write ∷ []

-- the index with one write more, whose author is the last or the next
abbrev pub pushed : Write → List Listing → List Listing
pushed write listings = pushed_at write listings (last_of listings)
