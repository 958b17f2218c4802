-- Elements three by three.
use Rattle.std.proofs.Common.{◌≡◌, ℕ, suc, ◌+◌, ◌<◌, List, [], ◌∷◌, length, get_or, take, drop, drop-cons, arith, ap, sym, ◌∙◌}

pub three : {X : Type 0} (xs : List X) (n : ℕ) (a b c : X) → n + 2 < length xs → a ≡ get_or xs n a → b ≡ get_or xs (n + 1) b → c ≡ get_or xs (n + 2) c → take 3 (drop n xs) ≡ a ∷ b ∷ c ∷ []
three xs n a b c h ea eb ec =
    let first : drop n xs ≡ get_or xs n a ∷ drop (suc n) xs = drop-cons xs n a (omega arith) in
    let second : drop (suc n) xs ≡ get_or xs (suc n) b ∷ drop (suc (suc n)) xs = drop-cons xs (suc n) b (omega arith) in
    let third : drop (suc (suc n)) xs ≡ get_or xs (suc (suc n)) c ∷ drop (suc (suc (suc n))) xs = drop-cons xs (suc (suc n)) c (omega arith) in
    let one : n + 1 ≡ suc n = omega arith in
    let two : n + 2 ≡ suc (suc n) = omega arith in
    ap (take 3) (first ∙ ap (λ ys. get_or xs n a ∷ ys) (second ∙ ap (λ ys. get_or xs (suc n) b ∷ ys) third))
    ∙ ap (λ x. x ∷ get_or xs (suc n) b ∷ get_or xs (suc (suc n)) c ∷ []) (sym ea)
    ∙ ap (λ x. a ∷ x ∷ get_or xs (suc (suc n)) c ∷ []) (sym (eb ∙ ap (λ k. get_or xs k b) one))
    ∙ ap (λ x. a ∷ b ∷ x ∷ []) (sym (ec ∙ ap (λ k. get_or xs k c) two))
