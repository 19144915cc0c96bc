-- The listing is written apart and handed over.
use borrow.Author.Rules.{rules}
use Rattle.filing.proofs.Filing.{inform_not_now, beside_stocked, listing_inside, listing_size, informs}
use Rattle.session.proofs.Tags.{tags}
use Rattle.filing.proofs.file.inform.Goals as goal

pub returns-in_default-clause-value : goal.returns-in_default-clause-value
returns-in_default-clause-value c = search (inform_not_now, tags)

pub put_listing-n-requires : goal.put_listing-n-requires
put_listing-n-requires c = search (beside_stocked, rules)

pub slice_bounds-out-end : goal.slice_bounds-out-end
slice_bounds-out-end c = search listing_inside

pub slice_bounds-hand-end : goal.slice_bounds-hand-end
slice_bounds-hand-end c = search listing_size

pub returns-clause-value : goal.returns-clause-value
returns-clause-value c = search informs
