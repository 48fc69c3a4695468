-- The measure of `add_link`: how many times the way may still be halved.
use Rattle.link_split.proofs.links.+add_link.Given as goal

abbrev pub decreases-add_link : goal.decreases-add_link
decreases-add_link l = l.halvings
