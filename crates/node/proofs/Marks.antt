-- What stays and what goes by marks.
use Rattle.std.proofs.Common.{◌≡◌, ◌+◌, Bool, true, false, List, [], ◌∷◌, length, take, refl, ap, arith}
use Rattle.key_class.specs.Class.{staying, going}
use Rattle.node.specs.Nodes.{stay, go}

pub stay_nil : {A : Type 0} (ms : List Bool) → stay {A = A} ms [] ≡ []
stay_nil [] = refl
stay_nil (m ∷ ms) = refl

pub go_nil : {A : Type 0} (ms : List Bool) → go {A = A} ms [] ≡ []
go_nil [] = refl
go_nil (m ∷ ms) = refl

-- Marks past the last element say nothing.
pub stay-take : {A : Type 0} (ms : List Bool) (xs : List A) → stay (take (length xs) ms) xs ≡ stay ms xs
stay-take [] [] = refl
stay-take (m ∷ ms) [] = refl
stay-take [] (x ∷ xs) = refl
stay-take (true ∷ ms) (x ∷ xs) = stay-take ms xs
stay-take (false ∷ ms) (x ∷ xs) = ap (λ ys. x ∷ ys) (stay-take ms xs)

pub go-take : {A : Type 0} (ms : List Bool) (xs : List A) → go (take (length xs) ms) xs ≡ go ms xs
go-take [] [] = refl
go-take (m ∷ ms) [] = refl
go-take [] (x ∷ xs) = refl
go-take (true ∷ ms) (x ∷ xs) = ap (λ ys. x ∷ ys) (go-take ms xs)
go-take (false ∷ ms) (x ∷ xs) = go-take ms xs

pub length_stay : {A : Type 0} (ms : List Bool) (xs : List A) → length ms ≡ length xs → length (stay ms xs) ≡ staying ms
length_stay [] xs l = omega arith
length_stay (m ∷ ms) [] l = absurd (omega arith)
length_stay (true ∷ ms) (x ∷ xs) l = length_stay ms xs (omega arith)
length_stay (false ∷ ms) (x ∷ xs) l = let r = length_stay ms xs (omega arith) in omega arith

pub length_go : {A : Type 0} (ms : List Bool) (xs : List A) → length ms ≡ length xs → length (go ms xs) ≡ going ms
length_go [] xs l = refl
length_go (m ∷ ms) [] l = absurd (omega arith)
length_go (true ∷ ms) (x ∷ xs) l = let r = length_go ms xs (omega arith) in omega arith
length_go (false ∷ ms) (x ∷ xs) l = length_go ms xs (omega arith)

pub stay_or_go : (ms : List Bool) → staying ms + going ms ≡ length ms
stay_or_go [] = refl
stay_or_go (true ∷ ms) = let r = stay_or_go ms in omega arith
stay_or_go (false ∷ ms) = let r = stay_or_go ms in omega arith
