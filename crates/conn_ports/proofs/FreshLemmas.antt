-- Connections of which no call was made, taken one from the other end.
use Rattle.std.proofs.Common.{◌≡◌, List, [], ◌∷◌, ◌++◌, reverse, Option, None, Some, IfSome, subst, sym}
use Rattle.std.proofs.lemmas.List.{reverse-append}
use Rattle.std.specs.Option.{option_to_list}
use Rattle.conn_ports.specs.Fresh.{IsFreshConn, AreFresh, AreFreshCalm}
use Rattle.conn_ports.specs.Link.{IsFresh}
use Rattle.conn_ports.specs.Wire.{calm_link}
use Rattle.conn_ports.specs.declared.calm.conn.CalmConn.{CalmConn}
use Rattle.conn_ports.specs.declared.memory.conn.MemoryConn.{MemoryConn}

-- two lists of them, and one behind the other
fresh_append : (xs ys : List MemoryConn) → AreFresh xs → AreFresh ys → AreFresh (xs ++ ys)
fresh_append [] ys h k = k
fresh_append (x ∷ xs) ys h k = (h.0, fresh_append xs ys h.1 k)

fresh_first : (xs ys : List MemoryConn) → AreFresh (xs ++ ys) → AreFresh xs
fresh_first [] ys h = tt
fresh_first (x ∷ xs) ys h = (h.0, fresh_first xs ys h.1)

fresh_second : (xs ys : List MemoryConn) → AreFresh (xs ++ ys) → AreFresh ys
fresh_second [] ys h = h
fresh_second (x ∷ xs) ys h = fresh_second xs ys h.1

pub fresh_reverse : (xs : List MemoryConn) → AreFresh xs → AreFresh (reverse xs)
fresh_reverse [] h = tt
fresh_reverse (x ∷ xs) h =
    subst AreFresh (sym (reverse-append (x ∷ []) xs)) (fresh_append (reverse xs) (x ∷ []) (fresh_reverse xs h.1) (h.0, tt))

-- what a pop leaves, and what it gives
pub fresh_rest : (old new : List MemoryConn) (last : Option MemoryConn) → old ≡ new ++ option_to_list last → AreFresh old → AreFresh new
fresh_rest old new last e h = fresh_first new (option_to_list last) (subst AreFresh e h)

fresh_option : (last : Option MemoryConn) → AreFresh (option_to_list last) → IfSome last IsFreshConn
fresh_option None h = tt
fresh_option (Some c) h = h.0

pub fresh_last : (old new : List MemoryConn) (last : Option MemoryConn) → old ≡ new ++ option_to_list last → AreFresh old → IfSome last IsFreshConn
fresh_last old new last e h = fresh_option last (fresh_second new (option_to_list last) (subst AreFresh e h))

-- the same of connections that never fail
calm_append : (xs ys : List CalmConn) → AreFreshCalm xs → AreFreshCalm ys → AreFreshCalm (xs ++ ys)
calm_append [] ys h k = k
calm_append (x ∷ xs) ys h k = (h.0, calm_append xs ys h.1 k)

calm_first : (xs ys : List CalmConn) → AreFreshCalm (xs ++ ys) → AreFreshCalm xs
calm_first [] ys h = tt
calm_first (x ∷ xs) ys h = (h.0, calm_first xs ys h.1)

calm_second : (xs ys : List CalmConn) → AreFreshCalm (xs ++ ys) → AreFreshCalm ys
calm_second [] ys h = h
calm_second (x ∷ xs) ys h = calm_second xs ys h.1

pub calm_reverse : (xs : List CalmConn) → AreFreshCalm xs → AreFreshCalm (reverse xs)
calm_reverse [] h = tt
calm_reverse (x ∷ xs) h =
    subst AreFreshCalm (sym (reverse-append (x ∷ []) xs)) (calm_append (reverse xs) (x ∷ []) (calm_reverse xs h.1) (h.0, tt))

pub calm_rest : (old new : List CalmConn) (last : Option CalmConn) → old ≡ new ++ option_to_list last → AreFreshCalm old → AreFreshCalm new
calm_rest old new last e h = calm_first new (option_to_list last) (subst AreFreshCalm e h)

calm_option : (last : Option CalmConn) → AreFreshCalm (option_to_list last) → IfSome last (λ c. IsFresh (calm_link c))
calm_option None h = tt
calm_option (Some c) h = h.0

pub calm_last : (old new : List CalmConn) (last : Option CalmConn) → old ≡ new ++ option_to_list last → AreFreshCalm old → IfSome last (λ c. IsFresh (calm_link c))
calm_last old new last e h = calm_option last (calm_second new (option_to_list last) (subst AreFreshCalm e h))
