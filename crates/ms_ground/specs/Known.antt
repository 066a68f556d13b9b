-- What is known of a tree: its enclosure, where it is well formed.
use Rattle.std.specs.Prelude.{List, Option, Some, None, Bool, true, false, not, ◌&&◌, map}
use Rattle.ms_trees.specs.Enclosure.{numeric_enclosure, boolean_enclosure, enclosure}
use Rattle.ms_trees.specs.WellFormed.{is_well_formed, is_numeric, are_numbers, are_truths, checked, fits}
use Rattle.ms_num.specs.Span.{Span}
use Rattle.ms_trees.specs.declared.tree.Enclosure.{Enclosure}
use Rattle.ms_trees.specs.declared.tree.Ground.{Ground}

abbrev pub known : Bool → Enclosure → Option Enclosure
known true q = Some q
known false q = None

-- the enclosure, where its interval is within the limits
abbrev pub within_limits : Enclosure → Option Enclosure
within_limits x = known (fits x.interval) x

-- the numbers of a tree
abbrev pub numbers_of : List Span → Ground → Enclosure
numbers_of b g = numeric_enclosure (enclosure b g).interval (enclosure b g).may_be_undefined

-- the truth values of a tree
abbrev pub truths_of : List Span → Ground → Enclosure
truths_of b g = boolean_enclosure (enclosure b g).may_be_true (enclosure b g).may_be_false

-- what the tree may mean, where it is a well formed integer tree
abbrev pub number_on : List Span → Ground → Option Enclosure
number_on b g = known (is_numeric g && is_well_formed b g) (numbers_of b g)

-- what the tree may mean, where it is a well formed Boolean tree
abbrev pub truth_on : List Span → Ground → Option Enclosure
truth_on b g = known (not (is_numeric g) && is_well_formed b g) (truths_of b g)

-- what a node over the list may mean, where each part is a well formed integer tree and the interval is within the limits
abbrev pub node_of_numbers : List Span → List Ground → Enclosure → Option Enclosure
node_of_numbers b xs e = known (are_numbers (map (checked b) xs) && fits e.interval) e

-- what a node over the list may mean, where each part is a well formed Boolean tree
abbrev pub node_of_truths : List Span → List Ground → Enclosure → Option Enclosure
node_of_truths b xs e = known (are_truths (map (checked b) xs)) e
