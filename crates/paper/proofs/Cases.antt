-- The marked cases of 'Both sides of each edge' under one statement, and the whole run: each side computes to the other.
use Prim.Native.Nat.{ℕ}
use Prim.Native.String.{String, ◌++◌}
use mathlib.Core.Path.{◌≡◌, refl}
use mathlib.Core.List.{List, []}
use Rattle.paper.specs.Byte.{bytes, when◌then◌else◌, between, every, any, among, same, decimal_within, decimal}
use Rattle.paper.specs.Line.{is_dropped, kept, infront, cut, long, control, followed, give, ended, one, byte, comma, part, is_digit, digit, two_digits, more_digits, number, letter, within, string, escape, quoted, plain}
use Rattle.paper.specs.Command.{is_shown, texts, value_range, content_ranges, setting_ranges, draw_ranges, step_range, define_ranges, is_name_byte, is_name, star, filing_ranges, ranges, all, all_of, in_range, Command, keep, print, draw, bar, put, black, text}
use Rattle.paper.specs.Refusal.{figures, unknown, malformed, out_of_range}
use Rattle.paper.specs.Read.{or_else, font, step_of, step, value, behind, content, setting, size_line, direction_line, text_line, bar_line, frame_line, counter_line, variable_line, name_line, copies_of, print_line, row, table, these, body_shape, by_row, shape, judged, read, Reading, command, unread}
use Rattle.paper.specs.Write.{commas, two, value_text, content_text, pen_text, step_text, commaed, setting_text, draw_text, define_text, filing_text, line_text, normal, write, lines_text}
use Rattle.paper.specs.Form.{text_of, within_limits, asked, value_of, len_of, same_value, defined, is_some, is_size, is_direction, drawing, in_place, room_for, content_sound, draw_sound, value_sound, rules, first_broken, unsound_at, find, without, used, has_room, stored, names, listing}
use Rattle.paper.specs.Set.{fits, amount, value_at, holds, holds_to, all_hold, padded, shows, value_in, filled, placed, drawn, set_lines, set_of, commands_of, is_new, draws, is_last, is_text, is_plain, ends_set, is_set, is_set_text, well_formed}
use Rattle.paper.specs.Bench.{begin, outcome, done, replied, after_refusal, refuse, opened_with, recalled, deleted, filed, in_idle, checked, collected, on_finish, in_collecting, in_spoiled, in_opened, in_ready, in_printing, answered_of, answered, in_answering, obeyed, heard, hear, after_set, taken, take_set}
use Rattle.paper.specs.Program.{enough, spaced, out_of, err_of, to_take, takes, after_takes, runs, program, Output}

-- the width of 01's label
abbrev pub narrow : ℕ
narrow = 812

-- what a line reads as
unfoldable pub reads : String → Reading
unfolding bytes when◌then◌else◌ between every any among same decimal_within decimal is_dropped kept infront cut long control followed give ended one byte comma part is_digit digit two_digits more_digits number letter within string escape quoted plain is_shown texts value_range content_ranges setting_ranges draw_ranges step_range define_ranges is_name_byte is_name star filing_ranges ranges all all_of in_range or_else font step_of step value behind content setting size_line direction_line text_line bar_line frame_line counter_line variable_line name_line copies_of print_line row table these body_shape by_row shape judged read
reads s = read narrow (bytes s)

-- the normal form of a command
unfoldable pub normal_of : Command → List ℕ
unfolding commas two value_text content_text pen_text step_text commaed setting_text draw_text define_text filing_text line_text normal write lines_text
normal_of c = normal c

-- what the program writes for an input
unfoldable pub ran : String → Output
unfolding reads figures commas two value_text content_text pen_text step_text commaed setting_text draw_text define_text filing_text line_text normal write lines_text text_of within_limits asked value_of len_of same_value defined is_some is_size is_direction drawing in_place room_for content_sound draw_sound value_sound rules first_broken unsound_at find without used has_room stored names listing fits amount value_at holds holds_to all_hold padded shows value_in filled placed drawn set_lines set_of commands_of is_new draws is_last is_text is_plain ends_set is_set is_set_text well_formed begin outcome done replied after_refusal refuse opened_with recalled deleted filed in_idle checked collected on_finish in_collecting in_spoiled in_opened in_ready in_printing answered_of answered in_answering obeyed heard hear after_set taken take_set enough spaced out_of err_of to_take takes after_takes runs program
ran s = program narrow (bytes s)

-- these texts on standard output and on standard error
unfoldable pub wrote : String → String → Output
wrote out err = record { out = bytes out; err = bytes err }

-- a form with a counter of len 3 is stored, opened and answered
unfoldable pub counted : (by first last : String) → String
counted by first last =
    "FS\"X\"\nQ1,0\nZT\nC0,3,N,"
    ++ by
    ++ ",\"\"\nA0,0,0,1,1,1,N,C0\nFE\nFR\"X\"\n?\n"
    ++ first
    ++ "\n"
    ++ last
    ++ "\n"

-- its set when it shows a number
unfoldable pub showing : String → String
showing number = "N\nQ1,0\nZT\nA0,0,0,1,1,1,N,\"" ++ number ++ "\"\nP1,1\n"

-- a form with a string of 80 bytes before a variable of some len
unfoldable pub eighty : String → String
eighty len =
    "FS\"X\"\nQ1,0\nZT\nV00,"
    ++ len
    ++ ",N,\"\"\nA0,0,0,1,1,1,N,\"01234567890123456789012345678901234567890123456789012345678901234567890123456789\"V00\nFE\n"

-- the marked cases, in 01's order
pub edges :
    (reads "LO412,0,400,1" ≡ command (keep (draw (bar black 412 0 400 1))))
    × (reads "LO413,0,400,1" ≡ unread out_of_range)
    × (reads "LO0,8728,1,1" ≡ command (keep (draw (bar black 0 8728 1 1))))
    × (reads "LO0,8728,1,2" ≡ unread out_of_range)
    × (reads "A811,0,0,1,1,1,N,\"\"" ≡ command (keep (draw (put (record { x = 811; y = 0; r = 0; f = 1; h = 1; v = 1; m = 78 }) (text [])))))
    × (reads "A812,0,0,1,1,1,N,\"\"" ≡ unread out_of_range)
    × (reads "P" ≡ unread malformed)
    × (reads "P0" ≡ unread out_of_range)
    × (reads "P65535" ≡ command (print 65535 1))
    × (normal_of (print 65535 1) ≡ bytes "P65535,1")
    × (reads "P65536" ≡ unread out_of_range)
    × (reads "PA1" ≡ unread malformed)
    × (reads "ZN" ≡ unread out_of_range)
    × (reads "Z" ≡ unread malformed)
    × (reads "LX" ≡ unread unknown)
    × (reads "n" ≡ unread unknown)
    × (reads "A0,0,0,1,1,1,N,\"\\\"" ≡ unread malformed)
    × (ran (counted "+1" "998" "P2") ≡ wrote (showing "998" ++ showing "999") "")
    × (ran (counted "+1" "998" "P3") ≡ wrote "" "10 14\n")
    × (ran (counted "-1" "1" "P2") ≡ wrote (showing "1" ++ showing "0") "")
    × (ran (counted "-1" "1" "P3") ≡ wrote "" "10 14\n")
    × (ran (eighty "20") ≡ wrote "" "")
    × (ran (eighty "21") ≡ wrote "" "6 9 4\n")
    × (ran "FS\"X\"\nFE\n" ≡ wrote "" "2 9 1\n")
unfolding ran normal_of wrote counted showing eighty
edges =
    (refl, refl, refl, refl, refl, refl, refl, refl, refl, refl, refl, refl, refl, refl, refl, refl, refl, refl, refl, refl, refl, refl, refl, refl)

-- the input of the whole run
unfoldable pub whole_input : String
whole_input =
    "FS\"SHELF\"\n"
    ++ "Q160,24\n"
    ++ "ZT\n"
    ++ "V00,20,N,\"Pupil:\"\n"
    ++ "C0,3,N,+1,\"First:\"\n"
    ++ "A50,30,0,3,1,1,N,\"Name: \"V00\n"
    ++ "A050,70,0,3,1,1,N,C0\n"
    ++ "LO50,110,400,3\n"
    ++ "FE\n"
    ++ "FR\"SHELF\"\n"
    ++ "?\n"
    ++ "Mia \"M\"\n"
    ++ "09\n"
    ++ "P2\n"

-- one of its two sets
unfoldable pub whole_set : String → String
whole_set number =
    "N\nQ160,24\nZT\nA50,30,0,3,1,1,N,\"Name: Mia \\\"M\\\"\"\nA50,70,0,3,1,1,N,\""
    ++ number
    ++ "\"\nLO50,110,400,3\nP1,1\n"

-- the whole run: two sets on standard output, nothing on standard error
pub whole_run : ran whole_input ≡ wrote (whole_set "09" ++ whole_set "10") ""
unfolding ran wrote whole_input whole_set
whole_run = refl
