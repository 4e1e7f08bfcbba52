-- The search of the bytes from a place on.
use Rattle.sb_input.proofs.SearchLemmas.{feed_found_from}
use Rattle.sb_input.proofs.search.find_feed.Goals as goal

pub returns : goal.returns
returns c = feed_found_from c.args.bytes.now c.args.from c.memchr.result c.memchr.ensures
