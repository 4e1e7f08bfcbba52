use Rattle.sb_store.proofs.Growing.{arena_grows, grows_alone}
use Rattle.sb_store.proofs.store.regexes_grow.Goals as goal

pub returns : goal.returns
returns c = record {
  arena = arena_grows c.graph_stays.ensures c.right_stays.ensures;
  alone = grows_alone c.normals_stay.ensures;
}
