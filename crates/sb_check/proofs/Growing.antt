-- What is known where the arena grows.
use Rattle.std.proofs.Common.{◌≡◌, List, ap₂, ◌∙◌}
use Rattle.sb_lang.specs.Regex.{Regex}
use Rattle.sb_regex.specs.Numbered.{Extends}
use Rattle.sb_regex.proofs.CallerLemmas.{ats_kept, numbers_kept}
use Rattle.sb_atoms.proofs.CallerLemmas.{atoms_kept, regexes_kept}
use Rattle.sb_plain.specs.Memory.{Memory, IsRight}
use Rattle.sb_problem.specs.declared.normals.Known.{Known}
use Rattle.sb_problem.specs.Known.{AreNormals}
use Rattle.sb_models.specs.declared.models.Models.{Models}
use Rattle.sb_models.specs.Knowing.{Knows}
use Rattle.sb_rulebook.specs.Kept.{AllKept, nothing_kept}
use Rattle.sb_rules.specs.declared.kept.Kept.{Kept}
use Rattle.sb_rules.specs.Kept.{IsWhole, kept_in}
use Rattle.sb_check.specs.declared.judge.Judge.{Judge}
use Rattle.sb_check.specs.Standing.{IsStanding}

pub grown : (k : Kept) (rs : List Regex) (plain : Memory) (normals : List Known) (others : AllKept) → IsWhole k
    → Extends k.arena rs
    → kept_in (record k { arena = rs; plain = plain; normals = normals }) others ≡ kept_in k others
grown k rs plain normals others w e =
    ap₂ (λ xs ys. record (kept_in k others) { regexes = xs; atoms = ys })
    (ats_kept k.arena rs k.regexes.order e w.regexes) (atoms_kept k.arena rs k.atoms e w.atoms)

pub stands_grown : (j : Judge) (rs : List Regex) (plain : Memory) (normals : List Known) (models : Models)
    → IsStanding j → Extends j.kept.arena rs → AreNormals j.stack.table rs normals → IsRight rs plain
    → Knows models j.stack
    → IsStanding (record j { kept = record j.kept { arena = rs; plain = plain; normals = normals }; models = models })
stands_grown j rs plain normals models h e n r m = record {
  over = record {
    whole = record {
      regexes = numbers_kept j.kept.arena rs j.kept.regexes.order e h.over.whole.regexes;
      plain = r;
      atoms = regexes_kept j.kept.arena rs j.kept.atoms e h.over.whole.atoms;
      brought = h.over.whole.brought;
      formed = h.over.whole.formed;
    };
    normals = n;
    measures = h.over.measures;
  };
  models = m;
  fresh = λ b format. grown j.kept rs plain normals (nothing_kept format) h.over.whole e ∙ h.fresh b format;
}
