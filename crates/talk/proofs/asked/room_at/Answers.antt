-- One law for each return: no room, no space, no number, more behind it, and all of it there.
use Rattle.talk.proofs.Asking.{asking}
use Rattle.talk.proofs.asked.room_at.Goals as goal

pub returns-then-s-at : goal.returns-then-s-at
returns-then-s-at c = search asking

pub returns-in_err-space_at : goal.returns-in_err-space_at
returns-in_err-space_at c = rw c.from_residual.ensures (search (asking, c.in_err-space_at.was))

pub returns-in_err-room : goal.returns-in_err-room
returns-in_err-room c = rw c.from_residual-in_err-room.ensures (search (asking, c.in_ok-space_at.was, c.in_err-room.was))

pub returns-then-room-s : goal.returns-then-room-s
returns-then-room-s c = search (asking, c.in_ok-space_at.was, c.in_ok-room.was)

pub returns : goal.returns
returns c = search (asking, c.in_ok-space_at.was, c.in_ok-room.was)
