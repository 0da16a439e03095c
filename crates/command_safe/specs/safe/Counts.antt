-- safe: how much of what is said speaks of a fault of the protocol, and the status for it.
use Rattle.std.specs.Prelude.{Bool, true, false, ◌==◌, ◌&&◌, if◌then◌else◌, List, count_by}
use Rattle.safe_model.specs.said.Said.{Said, unsafe, lost, nowhere, vain}
use Rattle.program_status.specs.declared.counts.SafeCounts.{SafeCounts}
use Rattle.program_status.specs.declared.status.Status.{Status}
use Rattle.program_status.specs.declared.status.Status.TheVariants.{Done, NotSafe}
use Rattle.safe_said.specs.AllSaid.{Line as OpVerdict}

-- that a read is unsafe
abbrev pub says_unsafe : Said → Bool
says_unsafe (unsafe word beside) = true
says_unsafe other = false

-- that a write is lost
abbrev pub says_lost : Said → Bool
says_lost (lost aborted) = true
says_lost other = false

-- that a poll is vain
abbrev pub says_vain : Said → Bool
says_vain vain = true
says_vain other = false

-- that a read or a poll reads no word
abbrev pub says_nowhere : Said → Bool
says_nowhere (nowhere aborted) = true
says_nowhere other = false

-- of an operation it is said that it is an unsafe read
abbrev pub is_unsafe : OpVerdict → Bool
is_unsafe one = says_unsafe one.said

-- or a lost write
abbrev pub is_lost : OpVerdict → Bool
is_lost one = says_lost one.said

-- or a vain poll
abbrev pub is_vain : OpVerdict → Bool
is_vain one = says_vain one.said

-- or a read or a poll that reads no word
abbrev pub is_nowhere : OpVerdict → Bool
is_nowhere one = says_nowhere one.said

-- how many there are of each; a loose poll is not counted
abbrev pub counts_of : List OpVerdict → SafeCounts
counts_of said = record { unsafe_reads = count_by is_unsafe said; lost = count_by is_lost said; vain = count_by is_vain said; nowhere = count_by is_nowhere said }

-- the status: where there are none, as of any text that is whole in the sink
abbrev pub ending_of : SafeCounts → Status
ending_of counts = if counts.unsafe_reads == 0 && (counts.lost == 0 && (counts.vain == 0 && counts.nowhere == 0)) then Done else NotSafe counts
