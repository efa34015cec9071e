-- What the proof of the grey uses: the full figure as a power of two, and a grey as a quotient by it.
pub mod Numbers
