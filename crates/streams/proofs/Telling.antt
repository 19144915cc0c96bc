-- From the tests of the code to the definitions. Assumes nothing.
use Rattle.std.proofs.Common.{◌≡◌, sym, ◌∙◌, ap, subst, ℕ, ◌<◌, List, true, false, if◌then◌else◌, pos, int_eq, Option, Some, None, Result, Ok, Err}
use Rattle.std.specs.Counts.{IsPrefixLen}
use Rattle.std.specs.declared.io.Error.{Error}
use Rattle.streams.specs.declared.errors.Errno.{Errno}
use Rattle.streams.specs.Streams.{errno_of, passing, tried, Reads}

-- what a call came to that failed
module _ (got : Result ℕ Error) (e : Error) (error : Errno) (is : got ≡ Err e) (number : error ≡ errno_of e) where
  by_number : tried got ≡ if passing error then Ok None else Err error
  unfolding tried
  by_number =
      let by : Errno → Result (Option ℕ) Errno = λ x. if passing x then Ok None else Err x in
      ap tried is ∙ ap by (sym number)

  pub interrupted : true ≡ int_eq error.0 (pos 4) → Ok None ≡ tried got
  interrupted y = sym (by_number ∙ rw (sym y))

  pub blocked : false ≡ int_eq error.0 (pos 4) → true ≡ int_eq error.0 (pos 11) → Ok None ≡ tried got
  blocked n y = sym (by_number ∙ rw (sym n, sym y))

  pub failed : false ≡ int_eq error.0 (pos 4) → false ≡ int_eq error.0 (pos 11) → Err error ≡ tried got
  failed n m = sym (by_number ∙ rw (sym n, sym m))

-- for a caller: a read that brought bytes
pub of_bytes : {r : Result (Option ℕ) Errno} {n : ℕ} (bytes : List ℕ) → Reads bytes r → r ≡ Ok (Some n) → (0 < n) × IsPrefixLen n bytes
of_bytes bytes held e = subst (Reads bytes) e held
