-- `put_normal` writes the normal form of a record, case by case.
use Rattle.paper.specs.Byte.{bytes}
use Rattle.paper.specs.Write.{normal, line_text, draw_text, define_text, filing_text, pen_text}
use Rattle.command.specs.View.{view_of, bar_of}
use Rattle.normal.specs.Normal.{record_held, reading_text, bar_text, name_text}
use Rattle.normal.proofs.Piece.{writes_is, writes_empty}
use Rattle.normal.proofs.Record.{line_room, view_is, record_closes, direction_small, varying_small, text_held, text_is_in_range}
use Rattle.normal.proofs.write.put_normal.Goals as goal

pub put_size-requires : goal.put_size-requires
unfolding reading_text view_of normal line_text draw_text define_text filing_text pen_text bar_of bar_text name_text bytes record_held
put_size-requires c = search (line_room, view_is)

pub put_direction-requires : goal.put_direction-requires
unfolding reading_text view_of normal line_text draw_text define_text filing_text pen_text bar_of bar_text name_text bytes record_held
put_direction-requires c = record { room = search (line_room, view_is); d_bound = search direction_small }

pub put_text-requires : goal.put_text-requires
unfolding reading_text view_of normal line_text draw_text define_text filing_text pen_text bar_of bar_text name_text bytes record_held
put_text-requires c = record { room = search (line_room, view_is); content_value = search text_held; p_value = search text_is_in_range }

pub put_bar-requires : goal.put_bar-requires
unfolding reading_text view_of normal line_text draw_text define_text filing_text pen_text bar_of bar_text name_text bytes record_held
put_bar-requires c = search (line_room, view_is)

pub put_bar-requires-in-Flip : goal.put_bar-requires-in-Flip
unfolding reading_text view_of normal line_text draw_text define_text filing_text pen_text bar_of bar_text name_text bytes record_held
put_bar-requires-in-Flip c = search (line_room, view_is)

pub put_bar-requires-in-White : goal.put_bar-requires-in-White
unfolding reading_text view_of normal line_text draw_text define_text filing_text pen_text bar_of bar_text name_text bytes record_held
put_bar-requires-in-White c = search (line_room, view_is)

pub put_frame-requires : goal.put_frame-requires
unfolding reading_text view_of normal line_text draw_text define_text filing_text pen_text bar_of bar_text name_text bytes record_held
put_frame-requires c = search (line_room, view_is)

pub put_counting-requires : goal.put_counting-requires
unfolding reading_text view_of normal line_text draw_text define_text filing_text pen_text bar_of bar_text name_text bytes record_held
put_counting-requires c = record { room = search (line_room, view_is); closes = search record_closes }

pub put_varying-requires : goal.put_varying-requires
unfolding reading_text view_of normal line_text draw_text define_text filing_text pen_text bar_of bar_text name_text bytes record_held
put_varying-requires c = record { room = search (line_room, view_is); closes = search record_closes; n_bound = search varying_small }

pub put_name-requires : goal.put_name-requires
unfolding reading_text view_of normal line_text draw_text define_text filing_text pen_text bar_of bar_text name_text bytes record_held
put_name-requires c = record { room = search (line_room, view_is); closes = search record_closes }

pub put_name-requires-in-Recall : goal.put_name-requires-in-Recall
unfolding reading_text view_of normal line_text draw_text define_text filing_text pen_text bar_of bar_text name_text bytes record_held
put_name-requires-in-Recall c = record { room = search (line_room, view_is); closes = search record_closes }

pub put_name-requires-in-Delete : goal.put_name-requires-in-Delete
unfolding reading_text view_of normal line_text draw_text define_text filing_text pen_text bar_of bar_text name_text bytes record_held
put_name-requires-in-Delete c = record { room = search (line_room, view_is); closes = search record_closes }

pub put_print-requires : goal.put_print-requires
unfolding reading_text view_of normal line_text draw_text define_text filing_text pen_text bar_of bar_text name_text bytes record_held
put_print-requires c = search (line_room, view_is)

pub returns-in-Empty : goal.returns-in-Empty
unfolding reading_text view_of normal line_text draw_text define_text filing_text pen_text bar_of bar_text name_text bytes record_held
returns-in-Empty c = search (writes_empty, view_is)

pub returns-in-New : goal.returns-in-New
unfolding reading_text view_of normal line_text draw_text define_text filing_text pen_text bar_of bar_text name_text bytes record_held
returns-in-New c = search (writes_is, view_is)

pub returns-in-Finish : goal.returns-in-Finish
unfolding reading_text view_of normal line_text draw_text define_text filing_text pen_text bar_of bar_text name_text bytes record_held
returns-in-Finish c = search (writes_is, view_is)

pub returns-in-Inform : goal.returns-in-Inform
unfolding reading_text view_of normal line_text draw_text define_text filing_text pen_text bar_of bar_text name_text bytes record_held
returns-in-Inform c = search (writes_is, view_is)

pub returns-in-Ask : goal.returns-in-Ask
unfolding reading_text view_of normal line_text draw_text define_text filing_text pen_text bar_of bar_text name_text bytes record_held
returns-in-Ask c = search (writes_is, view_is)

pub returns-in-Size : goal.returns-in-Size
unfolding reading_text view_of normal line_text draw_text define_text filing_text pen_text bar_of bar_text name_text bytes record_held
returns-in-Size c = search (writes_is, view_is)

pub returns-in-Direction : goal.returns-in-Direction
unfolding reading_text view_of normal line_text draw_text define_text filing_text pen_text bar_of bar_text name_text bytes record_held
returns-in-Direction c = search (writes_is, view_is)

pub returns-in-Text : goal.returns-in-Text
unfolding reading_text view_of normal line_text draw_text define_text filing_text pen_text bar_of bar_text name_text bytes record_held
returns-in-Text c = search (writes_is, view_is)

pub returns-in-Black : goal.returns-in-Black
unfolding reading_text view_of normal line_text draw_text define_text filing_text pen_text bar_of bar_text name_text bytes record_held
returns-in-Black c = search (writes_is, view_is)

pub returns-in-Flip : goal.returns-in-Flip
unfolding reading_text view_of normal line_text draw_text define_text filing_text pen_text bar_of bar_text name_text bytes record_held
returns-in-Flip c = search (writes_is, view_is)

pub returns-in-White : goal.returns-in-White
unfolding reading_text view_of normal line_text draw_text define_text filing_text pen_text bar_of bar_text name_text bytes record_held
returns-in-White c = search (writes_is, view_is)

pub returns-in-Frame : goal.returns-in-Frame
unfolding reading_text view_of normal line_text draw_text define_text filing_text pen_text bar_of bar_text name_text bytes record_held
returns-in-Frame c = search (writes_is, view_is)

pub returns-in-Counting : goal.returns-in-Counting
unfolding reading_text view_of normal line_text draw_text define_text filing_text pen_text bar_of bar_text name_text bytes record_held
returns-in-Counting c = search (writes_is, view_is)

pub returns-in-Varying : goal.returns-in-Varying
unfolding reading_text view_of normal line_text draw_text define_text filing_text pen_text bar_of bar_text name_text bytes record_held
returns-in-Varying c = search (writes_is, view_is)

pub returns-in-Start : goal.returns-in-Start
unfolding reading_text view_of normal line_text draw_text define_text filing_text pen_text bar_of bar_text name_text bytes record_held
returns-in-Start c = search (writes_is, view_is)

pub returns-in-Recall : goal.returns-in-Recall
unfolding reading_text view_of normal line_text draw_text define_text filing_text pen_text bar_of bar_text name_text bytes record_held
returns-in-Recall c = search (writes_is, view_is)

pub returns-in-Delete : goal.returns-in-Delete
unfolding reading_text view_of normal line_text draw_text define_text filing_text pen_text bar_of bar_text name_text bytes record_held
returns-in-Delete c = search (writes_is, view_is)

pub returns-in-Print : goal.returns-in-Print
unfolding reading_text view_of normal line_text draw_text define_text filing_text pen_text bar_of bar_text name_text bytes record_held
returns-in-Print c = search (writes_is, view_is)

pub returns-in-Refused : goal.returns-in-Refused
unfolding reading_text view_of normal line_text draw_text define_text filing_text pen_text bar_of bar_text name_text bytes record_held
returns-in-Refused c = search (writes_empty, view_is)
