-- What a feed scans: the bytes behind those that are answered, as a slice of those that are kept.
use Rattle.std.proofs.Common.{◌≡◌, ℕ, ◌-◌, ◌≤◌, List, length, take, drop, refl, ap, subst, ◌∙◌, arith}
use Rattle.std.proofs.lemmas.List.{take_all, length-drop}
use Rattle.sb_reader.specs.declared.scan.Found.{Found}
use Rattle.sb_reader.specs.declared.scan.Found.TheVariants as found
use Rattle.sb_reader.specs.declared.scan.Scan.{Scan}
use Rattle.sb_reader.specs.Scanning.{IsScan, IsStarted, ScansAll}

pub behind : (now kept : List ℕ) (start : ℕ) → now ≡ kept → take (length now - start) (drop start now) ≡ drop start kept
behind now kept start is =
    take_all (length now - start) (drop start now) (omega (arith, length-drop start now)) ∙ ap (drop start) is

pub started : (now kept : List ℕ) (start : ℕ) (scan : Scan) → now ≡ kept → start ≤ length kept
    → IsScan scan (take (length now - start) (drop start now)) → IsStarted kept start scan
started now kept start scan is within s =
    record { within = within; scan_of = subst (IsScan scan) (behind now kept start is) s }

-- where no end is found all is scanned
pub none_left : (f : Found) (scan : Scan) (bytes : List ℕ) → ((n : ℕ) → f ≡ found.End n → ⊥) → ScansAll f scan bytes
    → scan.scanned ≡ length bytes
none_left (found.End n) scan bytes other all = absurd (other n refl)
none_left found.Gap scan bytes other all = all
none_left found.Part scan bytes other all = all
