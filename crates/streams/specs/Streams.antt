-- What a call of `read` or `write` comes to, and what may become of a whole read or write. Assumes nothing.
use Rattle.std.specs.Prelude.{ℕ, ◌≤◌, ◌<◌, ◌≡◌, Bool, false, ◌||◌, if◌then◌else◌, List, ℤ, pos, Option, Some, None, Result, Ok, Err}
use Rattle.std.specs.Ordering.{int_eq}
use Rattle.std.specs.Counts.{IsPrefixLen}
use Rattle.std.specs.IoError.{error_kind, raw_os_error}
use Rattle.std.specs.declared.io.Error.{Error}
use Rattle.std.specs.declared.io.ErrorKind.{ErrorKind}
use Rattle.std.specs.declared.io.ErrorKind.TheVariants as K
use Rattle.streams.specs.declared.errors.Errno.{Errno}

-- an error by its number
abbrev pub numbered : ℤ → Errno
numbered n = record { 0 = n }

-- the number of an error that no system gave: that of an interrupted call, of one that would block, or of input or output
abbrev pub numbered_by : ErrorKind → Errno
numbered_by K.Interrupted = numbered (pos 4)
numbered_by K.WouldBlock = numbered (pos 11)
numbered_by _ = numbered (pos 5)

-- an error's number
abbrev pub errno_in : Option ℤ → ErrorKind → Errno
errno_in (Some n) kind = numbered n
errno_in None kind = numbered_by kind

abbrev pub errno_of : Error → Errno
errno_of e = errno_in (raw_os_error e) (error_kind e)

-- the errors that pass: EINTR, of a call that a signal interrupted, and EAGAIN, of one that would block
abbrev pub passing : Errno → Bool
passing error = int_eq error.0 (pos 4) || int_eq error.0 (pos 11)

-- what a call came to that answered `got`: it moved so many bytes, is to be made again, or failed
unfoldable pub tried : Result ℕ Error → Result (Option ℕ) Errno
tried (Ok n) = Ok (Some n)
tried (Err e) = if passing (errno_of e) then Ok None else Err (errno_of e)

-- what a read may come to that leaves these bytes in the buffer: some of them, or none where the input has ended
abbrev pub Reads : List ℕ → Result (Option ℕ) Errno → Type 0
Reads bytes (Ok (Some n)) = (0 < n) × IsPrefixLen n bytes
Reads bytes (Ok None) = Unit {0}
Reads bytes (Err error) = passing error ≡ false

-- what a write may come to that takes some of a buffer of this length
abbrev pub WritesSome : ℕ → Result ℕ Errno → Type 0
WritesSome length (Ok n) = (0 < n) × (n ≤ length)
WritesSome length (Err error) = passing error ≡ false

-- what a write of a buffer of this length may come to: where there is nothing to write, it is whole
abbrev pub Writes : ℕ → Result Unit Errno → Type 0
Writes length (Ok _) = Unit {0}
Writes length (Err error) = (0 < length) × (passing error ≡ false)

-- the bytes that a read brought
abbrev pub bytes_of : Result (Option ℕ) Errno → ℕ
bytes_of (Ok (Some n)) = n
bytes_of (Ok None) = 0
bytes_of (Err error) = 0
