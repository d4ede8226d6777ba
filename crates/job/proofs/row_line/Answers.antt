-- `job::row_line` meets its contract. Assumes nothing.
use Prim.Native.Nat.{ℕ}
use mathlib.Core.List.{List, [], ◌∷◌}
use mathlib.Core.Path.{◌≡◌, ◌∙◌}
use Rattle.lines.specs.Limits.{most_word, lacks_form}
use Rattle.lines.specs.Numbers.{no_number, number}
use Rattle.lines.specs.Lines.{row_key, comma, row_keys, field, fields, faulty, ended}
use Rattle.job.specs.Jobs.{row_line}
use Rattle.lines.proofs.LineLaws.{fields_stop, fields_broken, fields_none, fields_more, line_stop, line_go, end_absent, end_within, end_over, range_none, range_within, range_over}
use Rattle.numbers.proofs.ErrLaws.{handed_on}
use Rattle.job.proofs.row_line.Goals as goal

-- the line's numbers one after the other, and the texts after them
lacks_kind : (text : List ℕ) → no_number ≡ field row_key text → faulty lacks_form ≡ row_line text
unfolding row_line
lacks_kind text none = line_stop row_keys most_word text (fields_stop row_key (comma ∷ comma ∷ comma ∷ []) _ none)

lacks_p : (text : List ℕ) {after_kind : List ℕ} {kind : ℕ} → number kind after_kind ≡ field row_key text → no_number ≡ field comma after_kind → faulty lacks_form ≡ row_line text
unfolding row_line
lacks_p text {after_kind} {kind} k none =
    line_stop row_keys most_word text
    (fields_broken row_key (comma ∷ comma ∷ comma ∷ []) _ k
    (fields_stop comma (comma ∷ comma ∷ []) _ none))

lacks_q : (text : List ℕ) {after_kind after_p : List ℕ} {kind p : ℕ} → number kind after_kind ≡ field row_key text → number p after_p ≡ field comma after_kind → no_number ≡ field comma after_p
    → faulty lacks_form ≡ row_line text
unfolding row_line
lacks_q text {after_kind} {after_p} {kind} {p} k e none =
    line_stop row_keys most_word text
    (fields_broken row_key (comma ∷ comma ∷ comma ∷ []) _ k
    (fields_broken comma (comma ∷ comma ∷ []) _ e
    (fields_stop comma (comma ∷ []) _ none)))

lacks_r : (text : List ℕ) {after_kind after_p after_q : List ℕ} {kind p q : ℕ} → number kind after_kind ≡ field row_key text → number p after_p ≡ field comma after_kind → number q after_q ≡ field comma after_p
    → no_number ≡ field comma after_q → faulty lacks_form ≡ row_line text
unfolding row_line
lacks_r text {after_kind} {after_p} {after_q} {kind} {p} {q} k e f none =
    line_stop row_keys most_word text
    (fields_broken row_key (comma ∷ comma ∷ comma ∷ []) _ k
    (fields_broken comma (comma ∷ comma ∷ []) _ e
    (fields_broken comma (comma ∷ []) _ f
    (fields_stop comma [] _ none))))

row_go : (text : List ℕ) {after_kind after_p after_q after_r : List ℕ} {kind p q r : ℕ} → number kind after_kind ≡ field row_key text → number p after_p ≡ field comma after_kind → number q after_q ≡ field comma after_p
    → number r after_r ≡ field comma after_q → ended most_word (fields (kind ∷ p ∷ q ∷ r ∷ []) after_r) ≡ row_line text
unfolding row_line
row_go text {after_kind} {after_p} {after_q} {after_r} {kind} {p} {q} {r} k e f g =
    line_go row_keys most_word text
    (fields_more row_key (comma ∷ comma ∷ comma ∷ []) _ k
    (fields_more comma (comma ∷ comma ∷ []) _ e
    (fields_more comma (comma ∷ []) _ f
    (fields_more comma [] _ g
    (fields_none _)))))

pub returns-in_err-kind : goal.returns-in_err-kind
returns-in_err-kind c =
    let fault = c.in_err-kind.ensures in
    rw (handed_on _ c.from_residual.ensures.1, fault.0) (lacks_kind _ fault.1)

pub returns-in_err-p : goal.returns-in_err-p
returns-in_err-p c =
    let fault = c.in_err-p.ensures in
    rw (handed_on _ c.from_residual-in_err-p.ensures.1, fault.0) (lacks_p _ c.in_ok-kind.ensures fault.1)

pub returns-in_err-q : goal.returns-in_err-q
returns-in_err-q c =
    let fault = c.in_err-q.ensures in
    rw (handed_on _ c.from_residual-in_err-q.ensures.1, fault.0) (lacks_q _ c.in_ok-kind.ensures c.in_ok-p.ensures fault.1)

pub returns-in_err-r : goal.returns-in_err-r
returns-in_err-r c =
    let fault = c.in_err-r.ensures in
    rw (handed_on _ c.from_residual-in_err-r.ensures.1, fault.0) (lacks_r _ c.in_ok-kind.ensures c.in_ok-p.ensures c.in_ok-q.ensures fault.1)

pub returns-in_err-next : goal.returns-in_err-next
returns-in_err-next c =
    let fault = c.in_err-next.ensures in
    rw (handed_on _ c.from_residual-in_err-next.ensures.1, fault.0)
    (end_absent most_word _ _ fault.1 ∙ row_go _ c.in_ok-kind.ensures c.in_ok-p.ensures c.in_ok-q.ensures c.in_ok-r.ensures)

pub returns-in_err-in_range : goal.returns-in_err-in_range
returns-in_err-in_range c =
    let fault = c.in_err-in_range.ensures in
    let k = c.in_ok-kind.kind.value in
    let p = c.in_ok-p.p.value in
    let q = c.in_ok-q.q.value in
    let r = c.in_ok-r.r.value in
    rw (handed_on _ c.from_residual-in_err-in_range.ensures.1, fault.0)
    (end_over most_word (k ∷ p ∷ q ∷ r ∷ []) _ _ c.in_ok-next.ensures (range_over most_word k [] (p ∷ q ∷ r ∷ []) fault.1)
    ∙ row_go _ c.in_ok-kind.ensures c.in_ok-p.ensures c.in_ok-q.ensures c.in_ok-r.ensures)

pub returns-in_err-in_range-2 : goal.returns-in_err-in_range-2
returns-in_err-in_range-2 c =
    let fault = c.in_err-in_range-2.ensures in
    let k = c.in_ok-kind.kind.value in
    let p = c.in_ok-p.p.value in
    let q = c.in_ok-q.q.value in
    let r = c.in_ok-r.r.value in
    rw (handed_on _ c.from_residual-in_err-in_range-2.ensures.1, fault.0)
    (end_over most_word (k ∷ p ∷ q ∷ r ∷ []) _ _ c.in_ok-next.ensures (range_over most_word p (k ∷ []) (q ∷ r ∷ []) fault.1)
    ∙ row_go _ c.in_ok-kind.ensures c.in_ok-p.ensures c.in_ok-q.ensures c.in_ok-r.ensures)

pub returns-in_err-in_range-3 : goal.returns-in_err-in_range-3
returns-in_err-in_range-3 c =
    let fault = c.in_err-in_range-3.ensures in
    let k = c.in_ok-kind.kind.value in
    let p = c.in_ok-p.p.value in
    let q = c.in_ok-q.q.value in
    let r = c.in_ok-r.r.value in
    rw (handed_on _ c.from_residual-in_err-in_range-3.ensures.1, fault.0)
    (end_over most_word (k ∷ p ∷ q ∷ r ∷ []) _ _ c.in_ok-next.ensures (range_over most_word q (k ∷ p ∷ []) (r ∷ []) fault.1)
    ∙ row_go _ c.in_ok-kind.ensures c.in_ok-p.ensures c.in_ok-q.ensures c.in_ok-r.ensures)

pub returns-in_err-in_range-4 : goal.returns-in_err-in_range-4
returns-in_err-in_range-4 c =
    let fault = c.in_err-in_range-4.ensures in
    let k = c.in_ok-kind.kind.value in
    let p = c.in_ok-p.p.value in
    let q = c.in_ok-q.q.value in
    let r = c.in_ok-r.r.value in
    rw (handed_on _ c.from_residual-in_err-in_range-4.ensures.1, fault.0)
    (end_over most_word (k ∷ p ∷ q ∷ r ∷ []) _ _ c.in_ok-next.ensures (range_over most_word r (k ∷ p ∷ q ∷ []) [] fault.1)
    ∙ row_go _ c.in_ok-kind.ensures c.in_ok-p.ensures c.in_ok-q.ensures c.in_ok-r.ensures)

pub returns : goal.returns
returns c =
    let k = c.in_ok-kind.kind.value in
    let p = c.in_ok-p.p.value in
    let q = c.in_ok-q.q.value in
    let r = c.in_ok-r.r.value in
    let kind-in = c.in_ok-in_range.ensures in
    let p-in = c.in_ok-in_range-2.ensures in
    let q-in = c.in_ok-in_range-3.ensures in
    let r-in = c.in_ok-in_range-4.ensures in
    rw (kind-in.0, p-in.0, q-in.0, r-in.0)
    (end_within most_word (k ∷ p ∷ q ∷ r ∷ []) _ _ c.in_ok-next.ensures
    (range_within most_word k (p ∷ q ∷ r ∷ []) kind-in.1
    (range_within most_word p (q ∷ r ∷ []) p-in.1
    (range_within most_word q (r ∷ []) q-in.1
    (range_within most_word r [] r-in.1 (range_none most_word)))))
    ∙ row_go _ c.in_ok-kind.ensures c.in_ok-p.ensures c.in_ok-q.ensures c.in_ok-r.ensures)
