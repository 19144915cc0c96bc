-- The ranges of a text as the code tests them: those of a content by the numbers of its record, and a setting's beside them.
use Prim.Native.Nat.{ℕ}
use mathlib.Core.Path.{◌≡◌}
use mathlib.Core.Bool.{Bool, true, ◌&&◌, and-true}
use mathlib.Core.List.{List}
use lib.ListN.{length}
use lib.Dec.{leb}
use Rattle.paper.specs.Byte.{every}
use Rattle.paper.specs.Command.{Setting, is_shown, texts, value_range, content_ranges, setting_ranges, draw_ranges, ranges, in_range, all, all_of}
use Rattle.paper.specs.Command as P
use Rattle.paper.proofs.Filled.{all_of_append}
use Rattle.command.specs.View.{width, text_in, content_of, ContentShown}
use Rattle.command.specs.declared.Content.{Content}
use Rattle.command.specs.declared.Content.TheVariants as C

-- a text of shown bytes is judged by its length
pub shown_judged : (most : ℕ) (p : List ℕ) (n : ℕ) → n ≡ length p → every is_shown p ≡ true → leb n most ≡ all (texts most p)
unfolding texts all
shown_judged most p n counted shown = rw (counted, shown, and-true)

-- the ranges of a content by the numbers of its record
unfoldable pub content_in : Content → Bool
content_in (C.Text string) = leb string.len 100
content_in (C.Counter n) = leb n 9
content_in (C.Variable n) = leb n 15
content_in (C.TextCounter string n) = leb string.len 100 && leb n 9
content_in (C.TextVariable string n) = leb string.len 100 && leb n 15

-- they are the ranges of a content whose string is shown and counted
pub content_judged : (s : List ℕ) (c : Content) → ContentShown s c → content_in c ≡ all_of (content_ranges (content_of s c))
unfolding content_in ContentShown content_of content_ranges value_range all_of all
content_judged s (C.Text string) h = rw (shown_judged 100 (text_in s string) string.len h.counted h.shown, and-true)
content_judged s (C.Counter n) h = simp and-true
content_judged s (C.Variable n) h = simp and-true
content_judged s (C.TextCounter string n) h = rw (shown_judged 100 (text_in s string) string.len h.counted h.shown) (simp and-true)
content_judged s (C.TextVariable string n) h = rw (shown_judged 100 (text_in s string) string.len h.counted h.shown) (simp and-true)

-- a text is in its ranges if its parameters and its content are
pub put_ranges : (t : Setting) (c : P.Content) → in_range width (P.keep (P.draw (P.put t c))) ≡ (all_of (setting_ranges width t) && all_of (content_ranges c))
unfolding in_range ranges draw_ranges
put_ranges t c = all_of_append (setting_ranges width t) (content_ranges c)
