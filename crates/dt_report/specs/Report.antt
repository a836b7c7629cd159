use Rattle.std.specs.Prelude.{ℕ, Bool, if◌then◌else◌, List, [], ◌++◌, codes, sum_by, count_by}
use Rattle.std.specs.List.{flat_map, enumerate_from}
use Rattle.std.specs.Fmt.{decimal}
use Rattle.dt_record.specs.declared.origins.Letters.{Letters}
use Rattle.dt_record.specs.Letters.{has_letter}
use Rattle.dt_record.specs.Reasons.{reason_number, reason_name}
use Rattle.dt_text.specs.Line.{decimal_field, double_field, key_text}
use Rattle.dt_verdict.specs.declared.verdicts.Failure.{Failure}
use Rattle.dt_verdict.specs.declared.verdicts.Verdict.{Verdict}
use Rattle.dt_verdict.specs.declared.verdicts.Verdict.TheVariants.{Pass, Fail}
use Rattle.dt_verdict.specs.declared.tallies.Counts.{Counts}
use Rattle.dt_verdict.specs.declared.tallies.Noted.{Noted}
use Rattle.dt_verdict.specs.declared.answers.Checked.{Checked}
use Rattle.dt_report.specs.declared.lines.Letter.{Letter}
use Rattle.dt_report.specs.declared.lines.Letter.TheVariants.{L, S, P, I, D, C, Z}
use Rattle.dt_report.specs.Runs.{sources_text}

-- The text of a report (this project's own). Each line has its line feed.

-- where and why a check fails
unfoldable pub failed_text : Failure → List ℕ
failed_text f =
    codes "FAIL" ++ decimal_field (codes "stamp") f.key.stamp ++ decimal_field (codes "hart") f.key.hart
    ++ decimal_field (codes "seq") f.key.seq
    ++ decimal_field (codes "reason") (reason_number f.reason) ++ codes " " ++ reason_name f.reason

-- the first line: the verdict
unfoldable pub verdict_line : Verdict → List ℕ
verdict_line Pass = codes "PASS\n"
verdict_line (Fail f) = failed_text f ++ double_field (codes "expected") f.expected ++ double_field (codes "found") f.found ++ codes "\n"

-- the second line: the header's harts, and the records and the writes of all harts
unfoldable pub total_line : ℕ → List Counts → List ℕ
total_line harts counts =
    codes "harts=" ++ decimal harts ++ decimal_field (codes "records") (sum_by (λ (c : Counts). c.records) counts)
    ++ decimal_field (codes "writes") (sum_by (λ (c : Counts). c.writes) counts) ++ codes "\n"

-- a line for a hart: what is counted of its records
unfoldable pub hart_line : ℕ → Counts → List ℕ
hart_line hart counts =
    codes "hart " ++ decimal hart ++ decimal_field (codes "retired") counts.retired ++ decimal_field (codes "traps") counts.traps
    ++ decimal_field (codes "loads") counts.loads ++ decimal_field (codes "stores") counts.stores
    ++ decimal_field (codes "atomics") counts.atomics ++ decimal_field (codes "drains") counts.drains ++ codes "\n"

-- a line for each hart, hart 0 first
abbrev pub hart_lines : List Counts → List ℕ
hart_lines counts = flat_map (λ (p : ℕ × Counts). hart_line p.0 p.1) (enumerate_from 0 counts)

-- whether one letter is set
abbrev pub is_set : Letter → Letters → Bool
is_set L letters = letters.l
is_set S letters = letters.s
is_set P letters = letters.p
is_set I letters = letters.i
is_set D letters = letters.d
is_set C letters = letters.c
is_set Z letters = letters.z

-- how many records have a letter
abbrev pub count_of : Letter → List Noted → ℕ
count_of letter notes = count_by (λ (n : Noted). is_set letter n.letters) notes

-- the line of the rules: how many records have each letter
unfoldable pub rules_line : List Noted → List ℕ
rules_line notes =
    codes "rules" ++ decimal_field (codes "L") (count_of L notes)
    ++ decimal_field (codes "S") (count_of S notes)
    ++ decimal_field (codes "P") (count_of P notes)
    ++ decimal_field (codes "I") (count_of I notes)
    ++ decimal_field (codes "D") (count_of D notes)
    ++ decimal_field (codes "C") (count_of C notes)
    ++ decimal_field (codes "Z") (count_of Z notes) ++ codes "\n"

-- a letter, where it is set
abbrev pub letter_text : Bool → List ℕ → List ℕ
letter_text here letter = if here then letter else []

-- the letters that are set, or a dash where there are none
abbrev pub letters_text : Letters → List ℕ
letters_text letters =
    if has_letter letters then (letter_text letters.l (codes "L") ++ letter_text letters.s (codes "S") ++ letter_text letters.p (codes "P")
    ++ letter_text letters.i (codes "I") ++ letter_text letters.d (codes "D") ++ letter_text letters.c (codes "C")
    ++ letter_text letters.z (codes "Z"))
    else codes "-"

-- the line of a record: its key, the rules that settled its departures, and where its bytes come from
unfoldable pub note_line : Noted → List ℕ
note_line n =
    codes "note " ++ key_text n.key ++ codes " rules=" ++ letters_text n.letters ++ codes " from=" ++ sources_text n.sources ++ codes "\n"

-- the report: its lines in order, and with notes a line for each record that is named
abbrev pub report_text : Checked → Bool → List ℕ
report_text c notes =
    verdict_line c.verdict ++ total_line c.harts c.tallies.harts ++ hart_lines c.tallies.harts ++ rules_line c.tallies.notes
    ++ (if notes then (flat_map note_line c.tallies.notes) else [])
