-- What crates above need of cuts: a form more, and that bytes have one list of tokens or one first fault at most.
pub use Rattle.ms_syntax.proofs.Cuts.{cuts_more, none_beside, one_fault, one_list, sizes, sizes_more, spanned_more}
