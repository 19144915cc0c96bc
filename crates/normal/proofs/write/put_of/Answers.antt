-- `put_of` writes a content, case by case.
use Rattle.paper.specs.Write.{content_text, value_text}
use Rattle.paper.specs.Byte.{bytes}
use Rattle.command.specs.View.{content_of}
use Rattle.normal.specs.Normal.{content_held}
use Rattle.normal.proofs.Piece.{room_is, writes_is}
use Rattle.normal.proofs.Record.{content_is, content_closes, variable_small, joined_small}
use Rattle.normal.proofs.write.put_of.Goals as goal

pub put_string-requires : goal.put_string-requires
unfolding content_text content_of value_text bytes content_held
put_string-requires c = record { room = search (room_is, content_is); closes = search content_closes }

pub put_marked-requires : goal.put_marked-requires
unfolding content_text content_of value_text bytes content_held
put_marked-requires c = search (room_is, content_is)

pub put_variable-requires : goal.put_variable-requires
unfolding content_text content_of value_text bytes content_held
put_variable-requires c = record { room = search (room_is, content_is); n_bound = search variable_small }

pub put_string_counter-requires : goal.put_string_counter-requires
unfolding content_text content_of value_text bytes content_held
put_string_counter-requires c = record { room = search (room_is, content_is); closes = search content_closes }

pub put_string_variable-requires : goal.put_string_variable-requires
unfolding content_text content_of value_text bytes content_held
put_string_variable-requires c = record { room = search (room_is, content_is); closes = search content_closes; n_bound = search joined_small }

pub returns-in-Text : goal.returns-in-Text
unfolding content_text content_of value_text bytes content_held
returns-in-Text c = search (writes_is, content_is)

pub returns-in-Counter : goal.returns-in-Counter
unfolding content_text content_of value_text bytes content_held
returns-in-Counter c = search (writes_is, content_is)

pub returns-in-Variable : goal.returns-in-Variable
unfolding content_text content_of value_text bytes content_held
returns-in-Variable c = search (writes_is, content_is)

pub returns-in-TextCounter : goal.returns-in-TextCounter
unfolding content_text content_of value_text bytes content_held
returns-in-TextCounter c = search (writes_is, content_is)

pub returns-in-TextVariable : goal.returns-in-TextVariable
unfolding content_text content_of value_text bytes content_held
returns-in-TextVariable c = search (writes_is, content_is)
