use Rattle.sb_facts.proofs.CallerLemmas.{ok_more}
use Rattle.sb_regex.proofs.CallerLemmas.{extends_more}
use Rattle.sb_term.specs.Numbered.{term_at}
use Rattle.sb_fragment.specs.Memberships.{equality}
use Rattle.sb_atoms.specs.Truths.{IsTruthUnder, AreEqualUnder}
use Rattle.sb_atoms.proofs.TextFacts.{pair_first, pair_second}
use Rattle.sb_atoms.proofs.truth.word_equality.Goals as goal

pub returns-in_err-found-clause-ready : goal.returns-in_err-found-clause-ready
returns-in_err-found-clause-ready c = record {
  normals = c.in_err-found.ensures.normals;
  right = c.right_stays.ensures c.args.arena.now c.pattern.new.arena c.args.plain.now c.in_err-found.ensures.extends
      c.requires.ready.right;
}

pub equals_word-requires : goal.equals_word-requires
equals_word-requires c =
    let ts = c.args.table.now in
    let r = rw c.in-Some.is at c.in_ok-found.ensures.number in record {
      text = c.requires.one;
      word = c.requires.other;
      kind = r.kind;
      single = pair_second (term_at ts c.args.one) (term_at ts c.args.other) c.requires.pair r.kind;
      ready = record {
        normals = c.in_ok-found.ensures.normals;
        right = c.right_stays.ensures c.args.arena.now c.pattern.new.arena c.args.plain.now
            c.in_ok-found.ensures.extends c.requires.ready.right;
      };
    }

pub returns-in-Some-clause-ok : goal.returns-in-Some-clause-ok
returns-in-Some-clause-ok c =
    let a = term_at c.args.table.now c.args.one in
    let b = term_at c.args.table.now c.args.other in
    ok_more (AreEqualUnder c.args.values.now a b) (IsTruthUnder c.args.values.now (equality a b)) c.equals_word.result
    (λ truth h v bs gives. (h v bs gives.0).0) c.equals_word.ensures.ok

pub returns-in-Some-clause-extends : goal.returns-in-Some-clause-extends
returns-in-Some-clause-extends c =
    extends_more c.args.arena.now c.pattern.new.arena c.equals_word.new.arena c.in_ok-found.ensures.extends
    c.equals_word.ensures.extends

pub equals_word-requires-in-None : goal.equals_word-requires-in-None
equals_word-requires-in-None c =
    let ts = c.args.table.now in
    let other = rw c.in-None.is at c.in_ok-found.ensures.number in
    let both = pair_first (term_at ts c.args.one) (term_at ts c.args.other) c.requires.pair other in
    record {
      text = c.requires.other;
      word = c.requires.one;
      kind = both.0;
      single = both.1;
      ready = record {
        normals = c.in_ok-found.ensures.normals;
        right = c.right_stays.ensures c.args.arena.now c.pattern.new.arena c.args.plain.now
            c.in_ok-found.ensures.extends c.requires.ready.right;
      };
    }

pub returns-in-None-clause-ok : goal.returns-in-None-clause-ok
returns-in-None-clause-ok c =
    let a = term_at c.args.table.now c.args.one in
    let b = term_at c.args.table.now c.args.other in
    ok_more (AreEqualUnder c.args.values.now b a) (IsTruthUnder c.args.values.now (equality a b))
    c.equals_word-in-None.result (λ truth h v bs gives. (h v bs gives.1.0).1) c.equals_word-in-None.ensures.ok

pub returns-in-None-clause-extends : goal.returns-in-None-clause-extends
returns-in-None-clause-extends c =
    extends_more c.args.arena.now c.pattern.new.arena c.equals_word-in-None.new.arena c.in_ok-found.ensures.extends
    c.equals_word-in-None.ensures.extends
