-- Bytes that were read in steps.
use Rattle.std.proofs.Common.{◌≡◌, ℕ, List, [], ◌∷◌, ◌++◌, length, zero, suc, Option, None, Some, ap, sym, ◌∙◌, refl, subst}
use Rattle.std.proofs.lemmas.List.{append-nil, append_assoc}
use Rattle.conn_ports.specs.Link.{Link, Moves, Takes, Reads}
use Rattle.review_request.specs.Taken.{Took, TookFrom, TookAll, TookSome, EndsAt}

-- nothing was read
took_none : (bytes : List ℕ) (link : Link) → Took bytes bytes link link
took_none bytes link = record {
  bytes = [];
  appended = sym (append-nil bytes);
  taken = sym (append-nil link.taken);
  left = refl;
  written = refl;
}

pub took_nothing : (bytes : List ℕ) (link : Option Link) → TookFrom bytes bytes link link
took_nothing bytes None = tt
took_nothing bytes (Some link) = took_none bytes link

-- bytes, and then bytes
took_both : (a b c : List ℕ) (x y z : Link) → Took a b x y → Took b c y z → Took a c x z
took_both a b c x y z p q = record {
  bytes = p.bytes ++ q.bytes;
  appended = q.appended ∙ ap (λ l. l ++ q.bytes) p.appended ∙ append_assoc a p.bytes q.bytes;
  taken = q.taken ∙ ap (λ l. l ++ q.bytes) p.taken ∙ append_assoc x.taken p.bytes q.bytes;
  left = p.left ∙ ap (λ l. p.bytes ++ l) q.left ∙ sym (append_assoc p.bytes q.bytes z.left);
  written = q.written ∙ p.written;
}

pub took_then : (a b c : List ℕ) (x y z : Option Link) → TookFrom a b x y → TookFrom b c y z → TookFrom a c x z
took_then a b c None y z p q = tt
took_then a b c (Some x) (Some y) (Some z) p q = took_both a b c x y z p q
took_then a b c (Some x) (Some y) None p q = q
took_then a b c (Some x) None z p q = absurd p

-- what one read of a connection took
took_read : (old new bytes : List ℕ) (x y : Link) → new ≡ old ++ bytes → Takes bytes x y → Took old new x y
took_read old new bytes x y e t = record { bytes = bytes; appended = e; taken = t.taken; left = t.left; written = t.written }

moves_read : (old new bytes : List ℕ) (x y : Option Link) → new ≡ old ++ bytes → Moves (Takes bytes) x y → TookFrom old new x y
moves_read old new bytes None y e t = tt
moves_read old new bytes (Some x) (Some y) e t = took_read old new bytes x y e t
moves_read old new bytes (Some x) None e t = t

pub took_by_read : (max n : ℕ) (old new : List ℕ) (x y : Option Link) → Reads max old new x y n → TookFrom old new x y
took_by_read max n old new x y r = moves_read old new r.bytes x y r.appended r.told

-- no bytes
no_bytes : (bytes : List ℕ) → length bytes ≡ 0 → bytes ≡ []
no_bytes [] e = refl
no_bytes (b ∷ bytes) e = cc

moves_ended : (bytes : List ℕ) (x y : Option Link) → bytes ≡ [] → Moves (Takes bytes) x y → EndsAt x y
moves_ended bytes None y e t = tt
moves_ended bytes (Some x) (Some y) e t = t.ended e
moves_ended bytes (Some x) None e t = t

-- a read that gives nothing is at the end
pub ended_by_read : (max n : ℕ) (old new : List ℕ) (x y : Option Link) → Reads max old new x y n → n ≡ 0 → EndsAt x y
ended_by_read max n old new x y r e = moves_ended r.bytes x y (no_bytes r.bytes (r.count ∙ e)) r.told

-- bytes, and then the end
pub ended_then : (a b : List ℕ) (x y z : Option Link) → TookFrom a b x y → EndsAt y z → EndsAt x z
ended_then a b None y z p q = tt
ended_then a b (Some x) (Some y) (Some z) p q = q
ended_then a b (Some x) (Some y) None p q = q
ended_then a b (Some x) None z p q = absurd p

-- a head, and then a body
took_parts : (x y z : Link) (head body : List ℕ) → Took [] head x y → Took [] body y z → (bytes : List ℕ) × Took [] bytes x z
took_parts x y z head body p q = (
  p.bytes ++ q.bytes,
  record {
    bytes = p.bytes ++ q.bytes;
    appended = refl;
    taken = q.taken ∙ ap (λ l. l ++ q.bytes) p.taken ∙ append_assoc x.taken p.bytes q.bytes;
    left = p.left ∙ ap (λ l. p.bytes ++ l) q.left ∙ sym (append_assoc p.bytes q.bytes z.left);
    written = q.written ∙ p.written;
  },
)

pub took_head_and_body : (x y z : Option Link) (head body : List ℕ) → TookAll head x y → TookAll body y z → TookSome x z
took_head_and_body None y z head body p q = ([], tt)
took_head_and_body (Some x) (Some y) (Some z) head body p q = took_parts x y z head body p q
took_head_and_body (Some x) (Some y) None head body p q = absurd q
took_head_and_body (Some x) None z head body p q = absurd p

pub took_head : (x y : Option Link) (head : List ℕ) → TookAll head x y → TookSome x y
took_head x y head p = (head, p)
