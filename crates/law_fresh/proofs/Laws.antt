-- What the law of freshness states, and what other crates rest on besides.

-- every run is fresh
pub use Rattle.law_fresh.proofs.FreshLemmas.{Fresh-run}
-- who was told is who knows
pub use Rattle.law_fresh.proofs.BackLemmas.{known_told, told_known}
-- facts on the definitions of this crate

-- where an operation began, and what does not stand behind its master's turn; a lemma that takes a rule is of runs
-- under either
pub use Rattle.law_fresh.proofs.BehindLemmas.{behind_self, behind_next, IsBehind, Begun, Begun-turn, ends_turn, Begun-kept, event_behind, ended_behind}
-- a fact of each item on the lanes, after an event that brings only items of which it holds
pub use Rattle.law_fresh.proofs.MoveLemmas.{WorldHas, Enters, Replies, RepliesBy, act_has, arrival_has}
-- who presents an operation names it, and so does what lands; and a fact of all that is named
pub use Rattle.law_fresh.proofs.NamedLemmas.{presented_at, IsOf, brought_of, Names, Entry, presents_named, items_after, landings_after}
-- what is on a lane or landed names an operation that began
pub use Rattle.law_fresh.proofs.BegunLemmas.{LandingBegun, LandingsBegun-run}
-- what lands is a write
pub use Rattle.law_fresh.proofs.LandLemmas.{landed_writes}
-- an operation of which a data phase landed is there, and one that ended has ended ever after
pub use Rattle.law_fresh.proofs.BackLemmas.{IsThere, landings_there, ended_later, ended_front}
-- who knows goes on knowing, and who began and does not know never knows
pub use Rattle.law_fresh.proofs.AwareLemmas.{knew, knows_kept, since_kept, Brought, first_brought}
-- with which operation a master came to know
pub use Rattle.law_fresh.proofs.SinceLemmas.{write_since, since_behind, Since, got_since, ends_as_ended}
-- what was known before a reading
pub use Rattle.law_fresh.proofs.ToldLemmas.{Front, front_self, front_more, front_front, front_run, front_end, knew_before, before_by, before_in}
-- what a reading was, and what was known before it
pub use Rattle.law_fresh.proofs.ToldLemmas.{ReadBy, read_by}
-- which side of a bridge claims a memory request, and that it is the same request on every bus
pub use Rattle.law_fresh.proofs.CrossLemmas.{parent, goes_down, goes_up, same_on}
-- a target that claims is on the bus, and so is one that answers
pub use Rattle.law_fresh.proofs.TargetLemmas.{target_on, answers_claim}
-- a request of which nothing went through is whole
pub use Rattle.law_fresh.proofs.DelayedLemmas.{whole}
-- one of two is true; what is found by its place; one of many
pub use Rattle.law_fresh.proofs.ListLemmas.{or_either, At, found_at, each_contains}
-- an author's earlier writes ended before its later operations began
pub use Rattle.law_fresh.proofs.OwnLemmas.{WriteOp, write_tries, write_op, same_place, turn_is_there, TurnsEnd, turns_ended, run_turns, own_ended}
