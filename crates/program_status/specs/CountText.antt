-- How many faults `safe` lists, as standard error tells it.
use Rattle.std.specs.Prelude.{ℕ, List, [], ◌++◌, ◌==◌, codes, if◌then◌else◌}
use Rattle.std.specs.Fmt.{decimal}
use Rattle.program_status.specs.declared.counts.SafeCounts.{SafeCounts}

-- `, N NAME`, just where N is not 0
abbrev pub further_text : ℕ → List ℕ → List ℕ
further_text count name = if count == 0 then [] else codes ", " ++ (decimal count ++ (codes " " ++ name))

-- `N unsafe, M lost, K vain`, and behind it the further counts
abbrev pub counts_text : SafeCounts → List ℕ
counts_text counts =
    decimal counts.unsafe_reads
    ++ (codes " unsafe, " ++ (decimal counts.lost ++ (codes " lost, " ++ (decimal counts.vain ++ (codes " vain" ++ further_text counts.nowhere (codes "nowhere"))))))
