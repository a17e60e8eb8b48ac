-- `subspace_search::following` meets its contract: the words are those of the definition. Assumes nothing.
use native.Mathlib.Numerals.{add-one}
use Rattle.point_sets.specs.Sets.{member}
use Rattle.subspace_search.specs.Search.{following_words}
use Rattle.subspace_search.proofs.Words.{following-word}
use Rattle.subspace_search.proofs.following.Goals as goal

pub returns : goal.returns
unfolding member following_words
returns c x h = rw add-one (following-word c.args.place x c.requires h)
