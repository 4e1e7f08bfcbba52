use Rattle.std.proofs.Common.{◌≡◌, ◌∙◌, [], map, string_bytes, true, ap, subst, refl, codes}
use Rattle.clap.specs.Words.{App, HasKind, fault_of, first_of, found_of, is_simple, is_simple_and_free, matches_of}
use Rattle.clap.specs.Walk.{is_empty}
use Rattle.clap.proofs.OnLiterals.{clap_on_literals}
use Rattle.clap.proofs.WalkLemmas.{first_value-rows}
use Rattle.sb_words.specs.SolverWords.{strsolve}
use Rattle.sb_words.proofs.NoFault.{no_fault_kind}
use Rattle.sb_words.proofs.solver.read_words.Goals as goal

simple : is_simple strsolve ≡ true
unfolding clap_on_literals
simple = refl

free : is_simple_and_free strsolve ≡ true
unfolding clap_on_literals
free = refl

pub returns-in-Ok-clause-taken : goal.returns-in-Ok-clause-taken
returns-in-Ok-clause-taken c =
    let app = c.in_ok-strsolve.ensures in
    ap is_empty (subst (λ (a : App). fault_of a (map string_bytes c.args.words.now) ≡ []) app
    (c.in-Ok.ensures.kinds (ap is_simple_and_free app ∙ free)))

pub returns-in-Ok-clause-script : goal.returns-in-Ok-clause-script
returns-in-Ok-clause-script c =
    let app = c.in_ok-strsolve.ensures in
    c.get_str.ensures ∙ first_value-rows (found_of c.in-Ok.matches) (codes "script")
    ∙ ap (first_of (codes "script")) ((c.in-Ok.ensures.matches (ap is_simple app ∙ simple)).0
    ∙ ap (λ (a : App). matches_of a (map string_bytes c.args.words.now)) app)

pub returns-in-Ok-clause-proof : goal.returns-in-Ok-clause-proof
returns-in-Ok-clause-proof c =
    let app = c.in_ok-strsolve.ensures in
    c.get_str-in-Ok.ensures ∙ first_value-rows (found_of c.in-Ok.matches) (codes "proof")
    ∙ ap (first_of (codes "proof")) ((c.in-Ok.ensures.matches (ap is_simple app ∙ simple)).0
    ∙ ap (λ (a : App). matches_of a (map string_bytes c.args.words.now)) app)

pub returns-in-Err-clause-told : goal.returns-in-Err-clause-told
returns-in-Err-clause-told c taken =
    let app = c.in_ok-strsolve.ensures in
    c.told-refused.ensures (no_fault_kind (fault_of strsolve (map string_bytes c.args.words.now)) c.in-Err.error taken
    (subst (λ (a : App). HasKind (fault_of a (map string_bytes c.args.words.now)) c.in-Err.error) app
    (c.in-Err.ensures.kinds (ap is_simple_and_free app ∙ free))))
