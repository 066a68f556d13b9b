-- Laws of paths in a graph.
use Rattle.std.proofs.Common.{◌≡◌, ℕ, refl}
use Rattle.ms_graph.specs.Graph.{Edges, HasEdge, Leads, edge, onward}
use Rattle.ms_graph.specs.Search.{Reaches, here, there}

pub leads_leads : {g : Edges} {a b c : ℕ} → Leads g a b → Leads g b c → Leads g a c
leads_leads (edge e) h = onward e h
leads_leads (onward e r) h = onward e (leads_leads r h)

pub reaches_reaches : {g : Edges} {a b c : ℕ} → Reaches g a b → Reaches g b c → Reaches g a c
reaches_reaches here r = r
reaches_reaches (there l) here = there l
reaches_reaches (there l) (there m) = there (leads_leads l m)

pub reaches_edge : {g : Edges} {a b c : ℕ} → Reaches g a b → HasEdge g b c → Leads g a c
reaches_edge here e = edge e
reaches_edge (there l) e = leads_leads l (edge e)

pub edge_reaches : {g : Edges} {a b c : ℕ} → HasEdge g a b → Reaches g b c → Leads g a c
edge_reaches e here = edge e
edge_reaches e (there l) = onward e l

pub reaches_other : {g : Edges} {a b : ℕ} → Reaches g a b → (a ≡ b → ⊥) → Leads g a b
reaches_other here n = absurd (n refl)
reaches_other (there l) n = l

-- what each edge keeps, each path keeps
pub along : {g : Edges} {a b : ℕ} (D : ℕ → Type 0) → ((a b : ℕ) → D a → HasEdge g a b → D b) → Leads g a b → D a → D b
along D h (edge e) d = h _ _ d e
along D h (onward e r) d = along D h r (h _ _ d e)
