-- `is_readable` answers whether some line reads as a record, case by case.
use mathlib.Core.Path.{refl}
use mathlib.Core.Logic.{inl, inr}
use Rattle.paper.specs.Command.{in_range, ranges, draw_ranges, filing_ranges, all_of}
use Rattle.command.specs.View.{view_of, bar_of}
use Rattle.normal.specs.Normal.{record_held, readable}
use Rattle.normal.proofs.Judged.{record_case}
use Rattle.normal.proofs.write.is_readable.Goals as goal

pub returns-in-Empty : goal.returns-in-Empty
unfolding record_held readable view_of bar_of in_range ranges draw_ranges filing_ranges all_of
returns-in-Empty c = elim c.in-Empty.is [ inl e ↦ rw e refl | inr (inl e) ↦ rw e refl | inr (inr (inl e)) ↦ rw e refl | inr (inr (inr (inl e))) ↦ rw e refl | inr (inr (inr (inr e))) ↦ rw e refl ]

pub returns-in-Size : goal.returns-in-Size
unfolding record_held readable view_of bar_of in_range ranges draw_ranges filing_ranges all_of
returns-in-Size c = search record_case

pub returns-in-Direction : goal.returns-in-Direction
unfolding record_held readable view_of bar_of in_range ranges draw_ranges filing_ranges all_of
returns-in-Direction c = search record_case

pub returns-in-Text : goal.returns-in-Text
unfolding record_held readable view_of bar_of in_range ranges draw_ranges filing_ranges all_of
returns-in-Text c = search record_case

pub returns-in-Frame : goal.returns-in-Frame
unfolding record_held readable view_of bar_of in_range ranges draw_ranges filing_ranges all_of
returns-in-Frame c = search record_case

pub returns-in-Counting : goal.returns-in-Counting
unfolding record_held readable view_of bar_of in_range ranges draw_ranges filing_ranges all_of
returns-in-Counting c = search record_case

pub returns-in-Varying : goal.returns-in-Varying
unfolding record_held readable view_of bar_of in_range ranges draw_ranges filing_ranges all_of
returns-in-Varying c = search record_case

pub returns-in-Delete : goal.returns-in-Delete
unfolding record_held readable view_of bar_of in_range ranges draw_ranges filing_ranges all_of
returns-in-Delete c = search record_case

pub returns-in-Print : goal.returns-in-Print
unfolding record_held readable view_of bar_of in_range ranges draw_ranges filing_ranges all_of
returns-in-Print c = search record_case

pub returns-in-Start : goal.returns-in-Start
unfolding record_held readable view_of bar_of in_range ranges draw_ranges filing_ranges all_of
returns-in-Start c = elim c.in-Start.is [ inl e ↦ rw e c.is_name.ensures | inr e ↦ rw e c.is_name.ensures ]

pub returns-in-Black : goal.returns-in-Black
unfolding record_held readable view_of bar_of in_range ranges draw_ranges filing_ranges all_of
returns-in-Black c = elim c.in-Black.is [ inl e ↦ rw e c.bar_in.ensures | inr (inl e) ↦ rw e c.bar_in.ensures | inr (inr e) ↦ rw e c.bar_in.ensures ]

pub returns-in-Refused : goal.returns-in-Refused
unfolding record_held readable view_of bar_of in_range ranges draw_ranges filing_ranges all_of
returns-in-Refused c = search record_case
