use Rattle.std.proofs.Common.{◌≡◌, ℕ, ◌-◌, length, Option, None, replicate, refl, arith}
use Rattle.std.proofs.lemmas.List.{length-append, length-replicate}
use Rattle.sb_facts.proofs.CallerLemmas.{ok_then}
use Rattle.sb_clauses.specs.Occurring.{head_at}
use Rattle.sb_clauses.proofs.LinkLemmas.{either_way, padded}
use Rattle.sb_clauses.proofs.occurrences.grow_heads.Goals as goal

pub returns-clause-same : goal.returns-clause-same
returns-clause-same c =
    either_way c.grow.result (λ heads. (list : ℕ) → head_at heads list ≡ head_at c.args.heads.now list)
    c.args.heads.now c.grow.new.self _ c.grow.ensures.ok c.grow.ensures.err (λ list. refl)
    (λ list. padded c.args.heads.now (c.args.lists - length c.args.heads.now) list)

pub returns-clause-room : goal.returns-clause-room
returns-clause-room c =
    let more = replicate {A = Option ℕ} (c.args.lists - length c.args.heads.now) None in
    ok_then c.grow.result _ _
    (λ grown. rw grown (omega (
      arith,
      length-append c.args.heads.now more,
      length-replicate {A = Option ℕ} (c.args.lists - length c.args.heads.now) None,
    ))) c.grow.ensures.ok
