pub mod MaskLengths
