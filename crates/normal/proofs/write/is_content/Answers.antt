-- `is_content` answers whether the string of a content is shown, if it has one.
use mathlib.Core.Path.{refl}
use mathlib.Core.Logic.{inl, inr}
use Rattle.normal.specs.Normal.{content_shown}
use Rattle.normal.proofs.write.is_content.Goals as goal

pub returns-in-Counter : goal.returns-in-Counter
unfolding content_shown
returns-in-Counter c = elim c.in-Counter.is [ inl (n, e) ↦ rw e refl | inr (n, e) ↦ rw e refl ]

pub returns-in-Text : goal.returns-in-Text
unfolding content_shown
returns-in-Text c = elim c.in-Text.is [ inl e ↦ rw e c.is_shown.ensures | inr (inl (n, e)) ↦ rw e c.is_shown.ensures | inr (inr (n, e)) ↦ rw e c.is_shown.ensures ]
