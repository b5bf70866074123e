-- The items of a use keep their shape, one by one and in lists.
use Rattle.std.proofs.Common.{◌≡◌, Bool, true, false, ◌||◌, Option, refl, sym, ap, ◌∙◌, subst, ◌&&◌}
use Rattle.std.proofs.lemmas.Bool.{or_from}
use Rattle.php_exprs.proofs.Forests.{forest_assoc}
use Rattle.php_tree.specs.declared.token.Token.{Token}
use Rattle.php_tree.specs.declared.version.Version.TheVariants.{V74, V83}
use Rattle.php_tree.specs.Tree.{Forest, none, leaf, ◌+++◌}
use Rattle.php_terminals.specs.declared.terminal.Terminal.{Terminal}
use Rattle.php_terminals.specs.declared.terminal.Terminal.TheVariants as t
use Rattle.php_terminals.specs.Classify.{names_refused, terminal}
use Rattle.php_grammar.specs.Accepts.{accepts, same_class}
use Rattle.php_shapes.specs.Namespaces.{alias}
use Rattle.php_shapes.specs.Notation.{Rule, nothing, word, ◌~◌, ◌|||◌, many, commas}
use Rattle.php_shapes.specs.Shapes.{Fits, is_nothing, is_word, is_both, is_first, is_second, no_more, once_more}
use Rattle.syntax_rules.specs.Around.{Around}
use Rattle.syntax_rules.specs.HashComment.{hash_comment}
use Rattle.rewritten_shapes.specs.Laws.{AreSpelled, begins_namespace, opens_name}
use Rattle.rewritten_shapes.specs.RefusedWords.{in_use, is_any_of_them, is_as, is_comma, is_keyword_now, is_of_code, is_renamed, is_root, is_type_now, is_whole_name}
use Rattle.rewritten_shapes.proofs.Bilingual.{all_four, keywords, label_kept, left_false, front_namespace, no_namespace, shown_terminal, spelled_front, spelled_rest}
use Rattle.rewritten_shapes.proofs.Calm.{asks_calm, calm_asked, calm_shut, is_steady, shown_accepts, steady_shown}
use Rattle.rewritten_shapes.proofs.Kept.{AllGood, Kept, good_front, good_rest, kept_first, kept_join, kept_many, kept_second}
use Rattle.rewritten_shapes.proofs.Like.{like_leaf, like_none}
use Rattle.rewritten_shapes.proofs.Shown.{names_whole, new_parts, shown, shown_token, shut_front}
use Rattle.rewritten_shapes.proofs.Sides.{apart_parts, are_apart, stay_apart, still_first}
use Rattle.rewritten_shapes.proofs.Tabled.{written}
use Rattle.rewritten_shapes.proofs.UsesNames.{Names}
use Rattle.rewritten_shapes.proofs.UsesTokens.{comma_code, comma_flag, flag_after, same_flag, use_step}

-- ---- tokens

-- a token as it is shown
abbrev pub kept_token : Token → Token
kept_token x = shown_token (hash_comment x)

-- a token that is no part of a name stands alone
pub alone : (a : Bool → Option Around) (b : Bool) (c : Terminal) (x : Token) (f : Forest) → asks_calm c ≡ true
    → accepts V74 c x ≡ true → new_parts a b (leaf x f) ≡ leaf (kept_token x) (new_parts a false f)
alone a b c x f e p = ap shown (shut_front (hash_comment x) (names_whole (written a false f)) (calm_shut x (calm_asked c x e p)))

pub word_steady : (c : Terminal) (x : Token) → is_steady c ≡ true → accepts V74 c x ≡ true → Kept (word c) (leaf x none) (leaf (kept_token x) none)
word_steady c x e p = record { fits = is_word (steady_shown c x e p); like = like_leaf x (kept_token x) (shown_terminal x) }

comma_by : (own : Terminal) → same_class t.Comma own ≡ true → ((is_as own || is_root own) ≡ false) × (is_comma own ≡ true)
comma_by t.Comma e = (refl, refl)
comma_by _ e = absurd cc

as_by : (own : Terminal) → same_class t.As own ≡ true → (is_comma own ≡ false) × (is_of_code own ≡ false)
as_by t.As e = (refl, refl)
as_by _ e = absurd cc

pub comma_plain : (x : Token) → accepts V74 t.Comma x ≡ true → (is_as (terminal (kept_token x)) || is_root (terminal (kept_token x))) ≡ false
comma_plain x p = ap (λ (own : Terminal). is_as own || is_root own) (shown_terminal x) ∙ (comma_by (terminal x) p).0

-- ---- items

-- What a use asks of parts, behind which no alias and no braces stand: where they have no refused word, they are kept, and what
-- stands behind them has none.
abbrev pub Item : Bool → Bool → Rule → Rule → Type 0
Item u c r r2 = (f : Forest) → Fits V74 r f → AreSpelled f → begins_namespace f ≡ false → AllGood f
    → (a : Bool → Option Around) (b : Bool) (rest : Forest) → is_renamed rest ≡ false
    → in_use u c (new_parts a b f +++ rest) ≡ false → Kept r2 f (new_parts a b f) × (d : Bool) × (in_use u d rest ≡ false)

alias_kept : (u c : Bool) (f : Forest) → Fits V74 alias f → (a : Bool → Option Around) (b : Bool) (rest : Forest) → in_use u c (new_parts a b f +++ rest) ≡ false
    → Kept alias f (new_parts a b f) × (d : Bool) × (in_use u d rest ≡ false)
alias_kept u c _ (is_first is_nothing) a b rest m = (record { fits = is_first is_nothing; like = like_none }, c, m)
alias_kept u c f (is_second (is_both (is_word {x} p) (is_word {x = l} q) d)) a b rest m =
    let x2 = kept_token x in
    let l2 = kept_token l in
    let same : new_parts a b f ≡ leaf x2 (leaf l2 none) = ap (new_parts a b) d ∙ alone a b t.As x (leaf l none) refl p in
    let s1 = use_step u c x2 (leaf l2 rest) (ap (λ (z : Forest). in_use u c (z +++ rest)) (sym same) ∙ m) in
    let s2 = use_step u (flag_after u c x2) l2 rest s1.2 in (
      kept_second nothing (word t.As ~ word t.FreeLabel) f (new_parts a b f)
          (kept_join a b (word t.As) (word t.FreeLabel) (word t.As) (word t.FreeLabel) f (leaf x none) (leaf l none) d (is_word p) (is_word q) refl (word_steady t.As x refl p)
          (record {
            fits = is_word (shown_accepts V83 t.FreeLabel l
                (label_kept t.FreeLabel keywords l refl q (ap is_keyword_now (sym (shown_terminal l)) ∙ s2.0)));
            like =
                like_leaf l l2 (shown_terminal l);
          })),
      flag_after u (flag_after u c x2) l2,
      s2.2,
    )

-- a name and an alias, or none
pub named_item : (u c : Bool) (r : Rule) (n k : Terminal) → stay_apart r alias ≡ true → Names r n k → Item u c (r ~ alias) (word n ~ alias)
named_item u c r n k e names f (is_both {g} {h} x y d) s o w a b rest q m =
    let i = names g x (spelled_front g h (subst AreSpelled d s)) (front_namespace g h (ap begins_namespace (sym d) ∙ o)) a b in
    let h2 = new_parts a (still_first b g) h in
    let same : new_parts a b f ≡ leaf i.one h2 = ap (new_parts a b) d ∙ apart_parts a b g h (are_apart x y e) ∙ ap (λ (z : Forest). z +++ h2) i.same in
    let s1 = use_step u c i.one (h2 +++ rest) (ap (λ (z : Forest). in_use u c (z +++ rest)) (sym same) ∙ m) in
    let t1 = alias_kept u (flag_after u c i.one) h y a (still_first b g) rest s1.2 in
    (kept_join a b r alias (word n) alias f g h d x y e (subst (Kept (word n) g) (sym i.same) (i.as_name s1.0)) t1.0, t1.1, t1.2)

-- a name of a class
pub class_item : (u : Bool) (r : Rule) (n k : Terminal) → Names r n k → Item u true r (word k)
class_item u r n k names f x s o w a b rest q m =
    let i = names f x s o a b in
    let s1 = use_step u true i.one rest (ap (λ (z : Forest). in_use u true (z +++ rest)) (sym i.same) ∙ m) in
    (subst (Kept (word k) f) (sym i.same) (i.as_class s1.0 (s1.1 refl q)), flag_after u true i.one, s1.2)

-- a name, and an alias for a class
pub renamed_item : (u : Bool) (r : Rule) (n k : Terminal) → stay_apart r (word t.As ~ word t.ClassLabel) ≡ true
    → Names r n k → Item u true (r ~ word t.As ~ word t.ClassLabel) (word n ~ word t.As ~ word t.ClassLabel)
renamed_item u r n k e names f (is_both {g} {h} x (is_both (is_word {x = y} p) (is_word {x = l} v) d2) d) s o w a b rest q m =
    let i = names g x (spelled_front g h (subst AreSpelled d s)) (front_namespace g h (ap begins_namespace (sym d) ∙ o)) a b in
    let tail : Fits V74 (word t.As ~ word t.ClassLabel) h = is_both (is_word p) (is_word v) d2 in
    let b2 = still_first b g in
    let y2 = kept_token y in
    let l2 = kept_token l in
    let same_tail : new_parts a b2 h ≡ leaf y2 (leaf l2 none) = ap (new_parts a b2) d2 ∙ alone a b2 t.As y (leaf l none) refl p in
    let same : new_parts a b f ≡ leaf i.one (leaf y2 (leaf l2 none)) =
    ap (new_parts a b) d ∙ apart_parts a b g h (are_apart x tail e) ∙ ap (λ (z : Forest). z +++ new_parts a b2 h) i.same ∙ ap (leaf i.one) same_tail in
    let s1 = use_step u true i.one (leaf y2 (leaf l2 rest)) (ap (λ (z : Forest). in_use u true (z +++ rest)) (sym same) ∙ m) in
    let s2 = use_step u true y2 (leaf l2 rest) (ap (λ (z : Bool). in_use u z (leaf y2 (leaf l2 rest))) (sym (same_flag u true i.one i.no_comma i.no_code)) ∙ s1.2) in
    let flat = as_by (terminal y) p in
    let f2 : flag_after u true y2 ≡ true = same_flag u true y2 (ap is_comma (shown_terminal y) ∙ flat.0) (ap is_of_code (shown_terminal y) ∙ flat.1) in
    let s3 = use_step u true l2 rest (ap (λ (z : Bool). in_use u z (leaf l2 rest)) (sym f2) ∙ s2.2) in
    let any : is_any_of_them (terminal l2) ≡ false = or_from (is_keyword_now (terminal l2))
    (is_type_now (terminal l2)) s3.0 (left_false (is_type_now (terminal l2))
    (is_whole_name (terminal l2) && names_refused l2.text) (s3.1 refl q)) in (
      kept_join a b r (word t.As ~ word t.ClassLabel) (word n) (word t.As ~ word t.ClassLabel) f g h d x tail e (subst (Kept (word n) g) (sym i.same) (i.as_name s1.0))
          (kept_join a b2 (word t.As) (word t.ClassLabel) (word t.As) (word t.ClassLabel) h (leaf y none) (leaf l none) d2 (is_word p) (is_word v) refl (word_steady t.As y refl p)
          (record {
            fits = is_word (shown_accepts V83 t.ClassLabel l
                (label_kept t.ClassLabel all_four l refl v (ap is_any_of_them (sym (shown_terminal l)) ∙ any)));
            like =
                like_leaf l l2 (shown_terminal l);
          })),
      flag_after u true l2,
      s3.2,
    )

-- an item behind `function` or `const`
pub marked_item : (u c : Bool) (key : Terminal) (r r2 : Rule) → is_steady key ≡ true → asks_calm key ≡ true
    → stay_apart (word key) r ≡ true → ((x : Token) → accepts V74 key x ≡ true → opens_name x.kind x.text ≡ true)
    → ((c : Bool) → Item u c r r2) → Item u c (word key ~ r) (word key ~ r2)
marked_item u c key r r2 st calm e code item f (is_both {h} (is_word {x} p) y d) s o w a b rest q m =
    let sp = subst AreSpelled d s in
    let x2 = kept_token x in
    let same : new_parts a b f ≡ leaf x2 (new_parts a false h) = ap (new_parts a b) d ∙ alone a b key x h calm p in
    let s1 = use_step u c x2 (new_parts a false h +++ rest) (ap (λ (z : Forest). in_use u c (z +++ rest)) (sym same) ∙ m) in
    let t1 = item (flag_after u c x2) h y sp.1 (no_namespace (opens_name x.kind x.text) (begins_namespace h) sp.0.1 (code x p)) (subst AllGood d w) a false rest q s1.2 in
    (kept_join a b (word key) r (word key) r2 f (leaf x none) h d (is_word p) y e (word_steady key x st p) t1.0, t1.1, t1.2)

pub either_item : (u c : Bool) (r s r2 s2 : Rule) → Item u c r r2 → Item u c s s2 → Item u c (r ||| s) (r2 ||| s2)
either_item u c r s r2 s2 one other f (is_first x) sp o w a b rest q m =
    let z = one f x sp o w a b rest q m in
    (kept_first r2 s2 f (new_parts a b f) z.0, z.1, z.2)
either_item u c r s r2 s2 one other f (is_second x) sp o w a b rest q m =
    let z = other f x sp o w a b rest q m in
    (kept_second r2 s2 f (new_parts a b f) z.0, z.1, z.2)

-- ---- lists

-- further items begin with a comma
many_plain : (r : Rule) (f : Forest) → Fits V74 (many (word t.Comma ~ r)) f
    → (a : Bool → Option Around) (b : Bool) (rest : Forest) → is_renamed rest ≡ false
    → is_renamed (new_parts a b f +++ rest) ≡ false
many_plain r _ no_more a b rest q = q
many_plain r f (once_more {g} {h} (is_both {h = i} (is_word {x} p) y d1) z d) a b rest q =
    let same : new_parts a b f ≡ leaf (kept_token x) (new_parts a false (i +++ h)) =
    ap (new_parts a b) (d ∙ ap (λ (v : Forest). v +++ h) d1) ∙ alone a b t.Comma x (i +++ h) refl p in
    ap (λ (v : Forest). is_renamed (v +++ rest)) same ∙ comma_plain x p

more_kept : (u : Bool) (r r2 : Rule) → stay_apart (word t.Comma ~ r) (word t.Comma ~ r) ≡ true → Item u u r r2
    → (f : Forest) → Fits V74 (many (word t.Comma ~ r)) f → AreSpelled f → AllGood f → (a : Bool → Option Around) (b : Bool) (rest : Forest) → is_renamed rest ≡ false
    → (c : Bool) → in_use u c (new_parts a b f +++ rest) ≡ false → Kept (many (word t.Comma ~ r2)) f (new_parts a b f) × (d : Bool) × (in_use u d rest ≡ false)
more_kept u r r2 e item _ no_more s w a b rest q c m = (record { fits = no_more; like = like_none }, c, m)
more_kept u r r2 e item f (once_more {g} {h} (is_both {h = i} (is_word {x} p) y d1) z d) s w a b rest q c m =
    let one : Fits V74 (word t.Comma ~ r) g = is_both (is_word p) y d1 in
    let same0 : f ≡ leaf x (i +++ h) = d ∙ ap (λ (v : Forest). v +++ h) d1 in
    let s1 = subst AreSpelled same0 s in
    let w1 : AllGood (i +++ h) = subst AllGood same0 w in
    let x2 = kept_token x in
    let b2 = still_first b g in
    let i2 = new_parts a false i in
    let h2 = new_parts a b2 h in
    let front : new_parts a b g ≡ leaf x2 i2 = ap (new_parts a b) d1 ∙ alone a b t.Comma x i refl p in
    let same : new_parts a b f ≡ leaf x2 (i2 +++ h2) = ap (new_parts a b) d ∙ apart_parts a b g h (are_apart one z e) ∙ ap (λ (v : Forest). v +++ h2) front in
    let st = use_step u c x2 ((i2 +++ h2) +++ rest) (ap (λ (v : Forest). in_use u c (v +++ rest)) (sym same) ∙ m) in
    let flag : flag_after u c x2 ≡ u = comma_flag u c x2 (ap is_comma (shown_terminal x) ∙ (comma_by (terminal x) p).1) in
    let n1 : in_use u u (i2 +++ (h2 +++ rest)) ≡ false = ap (in_use u u) (sym (forest_assoc i2 h2 rest)) ∙ ap (λ (v : Bool). in_use u v ((i2 +++ h2) +++ rest)) (sym flag) ∙ st.2 in
    let t1 = item i y (spelled_front i h s1.1)
    (front_namespace i h (no_namespace (opens_name x.kind x.text) (begins_namespace (i +++ h)) s1.0.1
    (comma_code x p))) (good_front i h w1) a false (h2 +++ rest) (many_plain r h z a b2 rest q) n1 in
    let t2 = more_kept u r r2 e item h z (spelled_rest i h s1.1) (good_rest i h w1) a b2 rest q t1.1 t1.2 in
    let first = kept_join a b (word t.Comma) r (word t.Comma) r2 g (leaf x none) i d1 (is_word p) y refl (word_steady t.Comma x refl p) t1.0 in
    (kept_many a b (word t.Comma ~ r) (word t.Comma ~ r2) f g h d one z e first t2.0, t2.1, t2.2)

-- items with commas between
pub list_item : (u : Bool) (r r2 : Rule) → stay_apart r (many (word t.Comma ~ r)) ≡ true
    → stay_apart (word t.Comma ~ r) (word t.Comma ~ r) ≡ true → Item u u r r2 → Item u u (commas r) (commas r2)
list_item u r r2 e1 e item f (is_both {g} {h} x y d) s o w a b rest q m =
    let sp = subst AreSpelled d s in
    let al = subst AllGood d w in
    let b2 = still_first b g in
    let g2 = new_parts a b g in
    let h2 = new_parts a b2 h in
    let same : new_parts a b f ≡ g2 +++ h2 = ap (new_parts a b) d ∙ apart_parts a b g h (are_apart x y e1) in
    let n1 : in_use u u (g2 +++ (h2 +++ rest)) ≡ false = ap (in_use u u) (sym (forest_assoc g2 h2 rest)) ∙ ap (λ (v : Forest). in_use u u (v +++ rest)) (sym same) ∙ m in
    let t1 = item g x (spelled_front g h sp) (front_namespace g h (ap begins_namespace (sym d) ∙ o)) (good_front g h al) a b (h2 +++ rest) (many_plain r h y a b2 rest q) n1 in
    let t2 = more_kept u r r2 e item h y (spelled_rest g h sp) (good_rest g h al) a b2 rest q t1.1 t1.2 in
    (kept_join a b r (many (word t.Comma ~ r)) r2 (many (word t.Comma ~ r2)) f g h d x y e1 t1.0 t2.0, t2.1, t2.2)
