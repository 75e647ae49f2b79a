-- Pages that differ, and pages that are kept.
use Rattle.std.proofs.Common.{◌≡◌, ℕ, List, [], ◌∷◌, ◌++◌, sym, refl}
use mathlib.Core.List.Perm
use mathlib.Core.List.{map-append, Perm}
use Rattle.std.proofs.lemmas.List.{append_assoc}
use Rattle.gist.specs.Tree.{Written}
use Rattle.gist.specs.Theorems.{numbers, Differ}
use Rattle.gist.proofs.Perms.{perm_eq, map_perm}
use Rattle.gist.proofs.Bags.{v, ◌⊕◌, bag}

pub numbers-++ : (xs ys : Written) → numbers (xs ++ ys) ≡ numbers xs ++ numbers ys
numbers-++ xs ys = map-append (λ w. w.0) xs ys

-- The numbers of pages in two parts.
pub numbers_parts : {ws : Written} (xs ys : Written) → Perm ws (xs ++ ys) → Perm (numbers ws) (numbers xs ++ numbers ys)
numbers_parts xs ys p = Perm.trans (map_perm (λ w. w.0) p) (perm_eq (numbers-++ xs ys))

-- Nothing differs.
abbrev pub differ_not : (ws : Written) → Differ ws ws [] []
differ_not ws = record { gone = []; come = []; kept = ws; first_is = Perm.refl ws; second_is = Perm.refl ws; gone_from = Perm.refl []; come_to = Perm.refl [] }

module _ {a b : Written} {old new : List ℕ} (d : Differ a b old new) where
  -- In another order.
  abbrev pub differ_as : {x y : Written} {o n : List ℕ} → Perm x a → Perm y b → Perm old o → Perm new n → Differ x y o n
  differ_as p q r s = record {
    gone = d.gone;
    come = d.come;
    kept = d.kept;
    first_is = Perm.trans p d.first_is;
    second_is = Perm.trans q d.second_is;
    gone_from = Perm.trans d.gone_from r;
    come_to = Perm.trans d.come_to s;
  }

  -- Beside pages that both have.
  abbrev pub differ_beside : (rest : Written) → Differ (a ++ rest) (b ++ rest) old new
  differ_beside rest = record {
    gone = d.gone;
    come = d.come;
    kept = d.kept ++ rest;
    first_is = Perm.trans (Perm.append_right rest d.first_is) (perm_eq (append_assoc d.gone d.kept rest));
    second_is = Perm.trans (Perm.append_right rest d.second_is) (perm_eq (append_assoc d.come d.kept rest));
    gone_from = d.gone_from;
    come_to = d.come_to;
  }

  -- And more pages on either side, which count as different.
  abbrev pub differ_more : (xs ys : Written) → Differ (xs ++ a) (ys ++ b) (numbers xs ++ old) (numbers ys ++ new)
  differ_more xs ys = record {
    gone = xs ++ d.gone;
    come = ys ++ d.come;
    kept = d.kept;
    first_is = Perm.trans (Perm.append_left xs d.first_is) (perm_eq (sym (append_assoc xs d.gone d.kept)));
    second_is = Perm.trans (Perm.append_left ys d.second_is) (perm_eq (sym (append_assoc ys d.come d.kept)));
    gone_from = Perm.trans (perm_eq (numbers-++ xs d.gone)) (Perm.append_left (numbers xs) d.gone_from);
    come_to = Perm.trans (perm_eq (numbers-++ ys d.come)) (Perm.append_left (numbers ys) d.come_to);
  }

  -- The numbers of the pages on both sides.
  pub differ_numbers : Perm (numbers b ++ old) (numbers a ++ new)
  differ_numbers =
      Perm.trans (Perm.append (numbers_parts d.come d.kept d.second_is) (Perm.symm d.gone_from))
      (Perm.trans (bag (numbers d.come ∷ numbers d.kept ∷ numbers d.gone ∷ []) ((v 0 ⊕ v 1) ⊕ v 2) ((v 2 ⊕ v 1) ⊕ v 0) refl)
      (Perm.append (Perm.symm (numbers_parts d.gone d.kept d.first_is)) d.come_to))
