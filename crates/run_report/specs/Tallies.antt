-- What the program counts in: for each bus the counts of its line.
use Rattle.std.specs.Prelude.{◌≡◌, ℕ, ◌+◌, ◌<◌, ◌^◌, List, length, slice_index_or}
use Rattle.board_model.specs.declared.board.Board.{Board}
use Rattle.history_model.specs.declared.event.Event.{Event}
use Rattle.run_report.specs.declared.tallies.CountedKind.{CountedKind}
use Rattle.run_report.specs.declared.tallies.CountedKind.TheVariants.{Land, Read, Accept, Latch, Take, Stall, MasterAbort, TargetAbort, Arrive}
use Rattle.run_report.specs.declared.tallies.Tally.{Tally}
use Rattle.run_report.specs.Counts.{count_of}

-- a count of the line
abbrev pub count_in : Tally → CountedKind → ℕ
count_in tally Land = tally.land
count_in tally Read = tally.read
count_in tally Accept = tally.accept
count_in tally Latch = tally.latch
count_in tally Take = tally.take
count_in tally Stall = tally.stall
count_in tally MasterAbort = tally.nobody
count_in tally TargetAbort = tally.tabort
count_in tally Arrive = tally.arrive

-- one event more of the kind
abbrev pub counted : CountedKind → Tally → Tally
counted Land tally = record tally { land = tally.land + 1 }
counted Read tally = record tally { read = tally.read + 1 }
counted Accept tally = record tally { accept = tally.accept + 1 }
counted Latch tally = record tally { latch = tally.latch + 1 }
counted Take tally = record tally { take = tally.take + 1 }
counted Stall tally = record tally { stall = tally.stall + 1 }
counted MasterAbort tally = record tally { nobody = tally.nobody + 1 }
counted TargetAbort tally = record tally { tabort = tally.tabort + 1 }
counted Arrive tally = record tally { arrive = tally.arrive + 1 }

-- no events
abbrev pub no_tally : Tally
no_tally = record { land = 0; read = 0; accept = 0; latch = 0; take = 0; stall = 0; nobody = 0; tabort = 0; arrive = 0 }

-- the line's counts of a bus number in a table of them
abbrev pub tally_at : List Tally → ℕ → Tally
tally_at tallies bus = slice_index_or tallies bus no_tally

-- there is room for one event more of each kind
pub record Fits (tally : Tally) : Type 0 where
  pub land : tally.land + 1 < 2 ^ 64
  pub read : tally.read + 1 < 2 ^ 64
  pub accept : tally.accept + 1 < 2 ^ 64
  pub latch : tally.latch + 1 < 2 ^ 64
  pub take : tally.take + 1 < 2 ^ 64
  pub stall : tally.stall + 1 < 2 ^ 64
  pub nobody : tally.nobody + 1 < 2 ^ 64
  pub tabort : tally.tabort + 1 < 2 ^ 64
  pub arrive : tally.arrive + 1 < 2 ^ 64

-- a table for all bus numbers that has the counts of the history
pub record IsTallied (board : Board) (h : List Event) (tallies : List Tally) : Type 0 where
  pub all : length tallies ≡ 256
  pub counts : (bus : ℕ) (kind : CountedKind) → bus < 256 → count_in (tally_at tallies bus) kind ≡ count_of board h bus kind
