-- The heading, and behind it the names or the line for none.
use Rattle.paper.specs.Byte.{bytes}
use Rattle.store.proofs.Listing.{listing_none, listing_names}
use Rattle.store.proofs.put_listing.Goals as goal

pub returns-then-filed-eq0 : goal.returns-then-filed-eq0
unfolding bytes
returns-then-filed-eq0 c = search listing_none

pub returns : goal.returns
unfolding bytes
returns c = search listing_names
